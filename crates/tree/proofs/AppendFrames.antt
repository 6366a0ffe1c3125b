-- What one key more writes to an index in one stretch, whatever the index holds: words of the nodes that 01's append writes and
-- nothing else; and such frames one after the other. Assumes nothing.
use Prim.Native.Nat.{ℕ, ◌+◌, ◌-◌, ◌/◌, ◌%◌, ◌≤◌, ◌<◌}
use mathlib.Core.Path.{◌≡◌, refl, ◌∙◌}
use mathlib.Core.Logic.{◌⊎◌, ⊎_elim}
use mathlib.Core.List.{List, [], ◌∷◌, Memᴰ}
use mathlib.Core.Bool.{Bool, true, false, not, cond, ◌&&◌}
use native.Mathlib.Omega.{arith}
use native.Mathlib.Nat.{le_refl, mod-lt, mul-le-mul_right}
use lib.ListN.{length, get_or, set}
use lib.Seq.{get_or-set_other}
use lib.Dec.{eqb}
use borrow.Author.Tests.{eqb-true, eqb-false}
use Rattle.codec.specs.Parts.{put}
use Rattle.codec.proofs.PartLaws.{get_d_put-before, get_d_put-after}
use Rattle.model.specs.Shape.{opens, host, padded}
use Rattle.model.specs.Numbering.{nodes, leaf_node, inner_node, node_word}
use Rattle.model.specs.Tree.{nodes_of, index_words, nodes_written, AppendsFrame}
use Rattle.tree.specs.Append.{slot, with_separator, with_leaf, append_of}
use Rattle.tree.proofs.Orders.{le_or_lt}
use Rattle.tree.proofs.Leaves.{leaves_next}
use Rattle.tree.proofs.Numbers.{leaf_in}
use Rattle.tree.proofs.Apart.{inner_in}
use Rattle.tree.proofs.Takers.{hosted}
use Rattle.tree.proofs.Parts.{length-padded}
use Rattle.tree.proofs.Rooms.{placed, separator-own, separator_other, leaf_first, leaf_later}
use Rattle.tree.proofs.FillingsAt.{separator_framed, append-keeps}

-- ---- frames

pub appends_same : (d from to : ℕ) (xs : List ℕ) → AppendsFrame d from to xs xs
appends_same d from to xs = record { same_length = refl; same_outside = λ i out. refl }

pub appends_then : {d a b c : ℕ} {xs ys zs : List ℕ} → a ≤ b → b ≤ c → AppendsFrame d a b xs ys → AppendsFrame d b c ys zs → AppendsFrame d a c xs zs
appends_then h g first then =
    record {
      same_length = then.same_length ∙ first.same_length;
      same_outside = λ i out.
          then.same_outside i (λ k node from to there. out k node (omega arith) to there)
          ∙ first.same_outside i (λ k node from to there. out k node from (omega arith) there);
    }

-- ---- one key more

module _ (d : ℕ) (two : 2 ≤ d) (i : ℕ) where
  -- word i is in no word of node j
  abbrev Beside : ℕ → Type 0
  Beside j = (i < node_word d j) ⊎ (node_word d j + (d - 1) ≤ i)

  put-beside : (j v : ℕ) (xs : List ℕ) → node_word d j + (d - 1) ≤ length xs → Beside j → get_or (put xs (node_word d j) (padded (d - 1) (v ∷ []))) i 0 ≡ get_or xs i 0
  put-beside j v xs fits o =
      let vs = padded (d - 1) (v ∷ []) in
      let n : length (padded (d - 1) (v ∷ [])) ≡ d - 1 = length-padded (d - 1) (v ∷ []) (omega arith) in
      ⊎_elim (λ q. get_d_put-before i xs (node_word d j) vs 0 q (omega arith)) (λ q. get_d_put-after i xs (node_word d j) vs 0 (omega arith) (omega arith)) o

  set-beside : (j s v : ℕ) (xs : List ℕ) → s < d - 1 → Beside j → get_or (set xs (node_word d j + s) v) i 0 ≡ get_or xs i 0
  set-beside j s v xs l o = get_or-set_other xs (node_word d j + s) i v 0 (λ e. ⊎_elim (λ q. omega arith) (λ q. omega arith) o)

  module _ (m : ℕ) (xs : List ℕ) (room : node_word d (nodes d (m + 1)) ≤ length xs) where
    fits : (j : ℕ) → j < nodes d (m + 1) → node_word d j + (d - 1) ≤ length xs
    fits j l = omega (arith, mul-le-mul_right (d - 1) l)

    -- the node that takes the separator of leaf m is that of its host, which is m itself where m opens one
    separator-beside : (s : ℕ) → 0 < m → Beside (inner_node d (host d m)) → get_or (with_separator (node_word d) d m s xs) i 0 ≡ get_or xs i 0
    separator-beside s p o = by (opens d m) refl
      where
        by : (c : Bool) → opens d m ≡ c → get_or (with_separator (node_word d) d m s xs) i 0 ≡ get_or xs i 0
        by true own =
            rw (separator-own (node_word d) d m xs s p own)
            (put-beside (inner_node d m) s xs (fits (inner_node d m) (inner_in d two m (m + 1) (omega arith))) (rw ((hosted d two m p).itself own) at o))
        by false other = rw (separator_other (node_word d) d m xs s p other) (set-beside (inner_node d (host d m)) (slot d m) s xs (hosted d two m p).fits o)

    leaf-beside : (x : ℕ) → 0 < m → Beside (inner_node d (host d m)) → Beside (leaf_node d m) → get_or (with_leaf (node_word d) d m x xs) i 0 ≡ get_or xs i 0
    leaf-beside x p o l =
        let s = get_or xs (node_word d (leaf_node d (m - 1)) + (d - 2)) 0 in
        let long = (separator_framed (node_word d) d two m s xs (placed d (nodes d (m + 1)) (length xs) room)).same_length in
        rw (leaf_later (node_word d) d m xs x s refl)
        (put-beside (leaf_node d m) x (with_separator (node_word d) d m s xs) (rw long (fits (leaf_node d m) (leaf_in d two m (m + 1) (omega arith)))) l ∙ separator-beside s p o)

  append-beside : (k x : ℕ) (xs : List ℕ) → index_words d (k + 1) ≤ length xs → ((node : ℕ) → Memᴰ node (nodes_written d k) → Beside node)
      → get_or (append_of (node_word d) d k x xs) i 0 ≡ get_or xs i 0
  unfolding append_of nodes_written
  append-beside k x xs room out = by (eqb (k % (d - 1)) 0) (eqb m 0) refl out
    where
      m : ℕ
      m = k / (d - 1)

      long : node_word d (nodes d (m + 1)) ≤ length xs
      long = rw (leaves_next d k two) at room

      by : (c b : Bool) → eqb m 0 ≡ b → ((node : ℕ) → Memᴰ node (cond (c && not b) (inner_node d (host d m) ∷ leaf_node d m ∷ []) (leaf_node d m ∷ [])) → Beside node)
          → get_or (cond c (with_leaf (node_word d) d m x xs) (set xs (node_word d (leaf_node d m) + k % (d - 1)) x)) i 0 ≡ get_or xs i 0
      by true true z o =
          rw (leaf_first (node_word d) d m xs x (eqb-true m 0 z))
          (put-beside (leaf_node d m) x xs (fits m xs long (leaf_node d m) (leaf_in d two m (m + 1) (omega arith))) (o _ (Memᴰ.head refl)))
      by true false z o =
          let p : 0 < m = ⊎_elim (λ p. p) (λ r. absurd (eqb-false m 0 z (omega arith))) (le_or_lt 1 m) in
          leaf-beside m xs long x p (o _ (Memᴰ.head refl)) (o _ (Memᴰ.tail (Memᴰ.head refl)))
      by false b z o = set-beside (leaf_node d m) (k % (d - 1)) x xs (mod-lt k {m = d - 1} (omega arith)) (o _ (Memᴰ.head refl))

pub append_writes : (d : ℕ) → 2 ≤ d → (k x : ℕ) (xs : List ℕ) → index_words d (k + 1) ≤ length xs → AppendsFrame d k (k + 1) xs (append_of (node_word d) d k x xs)
append_writes d two k x xs room =
    record {
      same_length = (append-keeps (node_word d) d two k x xs (placed d (nodes_of d (k + 1)) (length xs) room)).same_length;
      same_outside = λ i out. append-beside d two i k x xs room (λ node there. out k node (le_refl k) (omega arith) there);
    }
