-- What an append may write of the index: the nodes of one key computed at order 3, with the numbers of 01's "One log by hand"
-- ("leaf 6 is node 9; the root over nine leaves is node 4, and leaf 9 is node 14 under new root 13"), and that no key is no word.
-- Assumes nothing.
use Prim.Native.Nat.{ℕ}
use mathlib.Core.Path.{◌≡◌, refl}
use mathlib.Core.List.{List, [], ◌∷◌, map}
use native.Mathlib.Omega.{arith}
use lib.ListN.{get_or}
use Rattle.model.specs.Shape.{valuation_up_to, cofactor_up_to, valuation, cofactor, opens, last_opened, host}
use Rattle.model.specs.Numbering.{opened, nodes, leaf_node}
use Rattle.model.specs.Tree.{nodes_written, AppendsFrame}

-- the first key of all; the first of leaf 5, its separator in the open node of level 1; the first of leaf 6, its separator in
-- the root, the open node of level 2; the second of leaf 7; the first of leaf 9, its separator in the new root
pub written-3 : map (nodes_written 3) (0 ∷ 10 ∷ 12 ∷ 15 ∷ 18 ∷ []) ≡ (0 ∷ []) ∷ (6 ∷ 8 ∷ []) ∷ (4 ∷ 9 ∷ []) ∷ (11 ∷ []) ∷ (13 ∷ 14 ∷ []) ∷ []
unfolding valuation_up_to cofactor_up_to valuation cofactor opens last_opened host opened nodes leaf_node nodes_written
written-3 = refl

-- where no key is appended no word may be written
pub no_key_written : {d k : ℕ} {xs ys : List ℕ} → AppendsFrame d k k xs ys → (i : ℕ) → get_or ys i 0 ≡ get_or xs i 0
no_key_written framed i = framed.same_outside i (λ j node from to there. absurd (omega arith))
