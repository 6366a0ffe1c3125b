-- One key more in the index of k keys (01, "Packed tree"): the words that are written, node k standing from
-- word `at k` on. `append_of` is what contracts cite. Assumes nothing.
use Rattle.std.specs.Prelude.{ℕ, suc, ◌+◌, ◌-◌, ◌/◌, ◌%◌, ◌≤◌, ◌<◌, ◌≡◌, List, [], ◌∷◌, cond, get_or, set, eqb}
use Rattle.codec.specs.Parts.{put}
use Rattle.model.specs.Shape.{opens, host, cofactor, padded}
use Rattle.model.specs.Numbering.{nodes, leaf_node, inner_node}

-- the word of its node that takes the separator of leaf m: the next one of the open node
unfoldable pub slot : ℕ → ℕ → ℕ
slot d m = cofactor d m % d - 1

-- leaf m is needed: s, the last key of leaf m - 1, becomes a separator
unfoldable pub with_separator : (at : ℕ → ℕ) → ℕ → ℕ → ℕ → List ℕ → List ℕ
with_separator at d m s xs =
    cond (eqb m 0) xs
    (cond (opens d m) (put xs (at (inner_node d m)) (padded (d - 1) (s ∷ [])))
    (set xs (at (inner_node d (host d m)) + slot d m) s))

-- the same, the last key of leaf m - 1 being read there
abbrev pub separated : (at : ℕ → ℕ) → ℕ → ℕ → List ℕ → List ℕ
separated at d m xs = with_separator at d m (get_or xs (at (leaf_node d (m - 1)) + (d - 2)) 0) xs

-- leaf m is needed for the key x
unfoldable pub with_leaf : (at : ℕ → ℕ) → ℕ → ℕ → ℕ → List ℕ → List ℕ
with_leaf at d m x xs = put (with_separator at d m (get_or xs (at (leaf_node d (m - 1)) + (d - 2)) 0) xs) (at (leaf_node d m)) (padded (d - 1) (x ∷ []))

-- the key x after k others: in the next word of the last leaf, or in a new leaf
unfoldable pub append_of : (at : ℕ → ℕ) → ℕ → ℕ → ℕ → List ℕ → List ℕ
append_of at d k x xs = cond (eqb (k % (d - 1)) 0) (with_leaf at d (k / (d - 1)) x xs) (set xs (at (leaf_node d (k / (d - 1))) + k % (d - 1)) x)

-- the keys js after k others, one by one
unfoldable pub fill_of : (at : ℕ → ℕ) → ℕ → ℕ → List ℕ → List ℕ → List ℕ
fill_of at d k [] xs = xs
fill_of at d k (x ∷ js) xs = fill_of at d (suc k) js (append_of at d k x xs)

-- ---- what the calls ask for

-- leaf m is needed, `leaf` is its number, and all nodes up to it can be reached
pub record Needed (d : ℕ) (P : ℕ → Type 0) (m leaf : ℕ) : Type 0 where
  pub order_low : 2 ≤ d
  pub order_high : d ≤ 64
  pub few : m ≤ 65536
  pub number : leaf ≡ leaf_node d m
  pub reach : (i : ℕ) → i < nodes d (m + 1) → P i
