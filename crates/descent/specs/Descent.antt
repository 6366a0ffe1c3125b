-- The descent from node number to node number (01, "Packed tree"): what its calls ask for and what they find.
-- A node that stands on level l + 1 is over at most d ^ (l + 1) leaves, d ^ l below each word; a level that the
-- right edge skips has none. Assumes nothing.
use Rattle.std.specs.Prelude.{ℕ, ◌+◌, ◌-◌, ◌*◌, ◌/◌, ◌^◌, ◌≤◌, ◌<◌, min, ◌≡◌, List, length}
use Rattle.model.specs.Numbering.{nodes, leaf_node}
use Rattle.model.specs.Tree.{Packed, Rising, keys_up_to}
use Rattle.tree.specs.Levels.{inners_over}
use Rattle.descent.specs.Ranges.{Between}

-- the number of the first leaf below child j of the node over the leaves from number `first` on, `under` nodes
-- below each word: the node itself is numbered after all of child 0
abbrev pub child_node : ℕ → ℕ → ℕ → ℕ
child_node first under j = first + j * under + min j 1

-- leaf a of k keys, its number, and that it can be reached
pub record Leaf (d k : ℕ) (P : ℕ → Type 0) (first a : ℕ) : Type 0 where
  pub order_low : 2 ≤ d
  pub order_high : d ≤ 64
  pub few : k ≤ 65536
  pub number : first ≡ leaf_node d a
  pub there : a * (d - 1) < k
  pub reach : P first

-- the node over r leaves of which the first has the number `first`, u leaves below each word and `under` nodes;
-- it is there if the leaves are more than u
pub record Node (d : ℕ) (P : ℕ → Type 0) (u under first r : ℕ) : Type 0 where
  pub order_low : 2 ≤ d
  pub order_high : d ≤ 64
  pub unit : 0 < u
  pub some : 0 < r
  pub few : r ≤ 65536
  pub fits : r ≤ u * d
  pub small : u < r → first + under ≤ 131072
  pub reach : u < r → P (first + under)

-- the leaves a to a + r - 1 of k keys, at most as many as the level is wide, on a border of that width
pub record Down (d k : ℕ) (P : ℕ → Type 0) (level u under first a r : ℕ) : Type 0 where
  pub order_low : 2 ≤ d
  pub order_high : d ≤ 64
  pub few : k ≤ 65536
  pub unit_is : u ≡ d ^ level / d
  pub under_is : under ≡ inners_over d level
  pub block : ℕ
  pub border : a ≡ block * d ^ level
  pub number : first ≡ leaf_node d a
  pub some : 0 < r
  pub fits : r ≤ d ^ level
  pub there : (a + r) * (d - 1) < k + (d - 1)
  pub reach : (i : ℕ) → i < nodes d (a + r) → P i

-- c of the k keys are at most t, if the index holds the packed tree of rising keys and those keys end there
pub record Found (at : ℕ → ℕ) (index : List ℕ) (d k t a r c : ℕ) : Type 0 where
  pub within : c ≤ k
  pub counts : (keys : List ℕ) → length keys ≡ k → Rising keys → Packed at d keys index → Between keys (d - 1) t a r → c ≡ keys_up_to keys t

-- c of the k keys are at most t, if the index holds the packed tree of k rising keys; on any words c is at most k
pub record Counted (at : ℕ → ℕ) (index : List ℕ) (d k t c : ℕ) : Type 0 where
  pub packed : (keys : List ℕ) → length keys ≡ k → Rising keys → Packed at d keys index → c ≡ keys_up_to keys t
  pub within : c ≤ k
