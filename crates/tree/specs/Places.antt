-- Where the nodes of an index stand: in one stretch, or in extents of equal size that start anywhere (02, wish 11). All that
-- reads or writes a node speaks of its first word as `place_of … k`, and all above the tree of the nodes as one stretch,
-- `stretch_of`. Assumes nothing.
use Rattle.std.specs.Prelude.{ℕ, zero, suc, ◌+◌, ◌-◌, ◌/◌, ◌%◌, ◌≤◌, ◌<◌, ◌≡◌, ◌⊎◌, List, [], ◌++◌, cond, length, get_or, replicate, eqb}
use Rattle.codec.specs.Parts.{zeros, part}
use Rattle.model.specs.Numbering.{node_word}
use Rattle.model.specs.Tree.{tree_of, with_nodes, NodesFrame}

-- the first word of node k: in extent k / e, e nodes to an extent, from the word listed for it on; where e is 0 there are no
-- extents, and all nodes stand in one stretch
unfoldable pub place_of : ℕ → ℕ → List ℕ → ℕ → ℕ
place_of d e starts k = cond (eqb e 0) (node_word d k) (get_or starts (k / e) 0 + node_word d (k % e))

-- the most words that can be lent
abbrev pub most_words : ℕ
most_words = 1152921504606846975

-- node k has a place in an index of len words
pub record Reached (d e : ℕ) (starts : List ℕ) (len k : ℕ) : Type 0 where
  pub listed : (0 < e → k / e < length starts)
  pub inside : place_of d e starts k + (d - 1) ≤ len

-- n nodes of w words each, apart from one another, in an index of len words
pub record Placed (at : ℕ → ℕ) (w n len : ℕ) : Type 0 where
  pub room : (i : ℕ) → i < n → at i + w ≤ len
  pub apart : (i j : ℕ) → i < n → j < n → (i ≡ j → ⊥) → (at i + w ≤ at j) ⊎ (at j + w ≤ at i)

-- n nodes have their places in an index of len words, each to be reached and apart from the others
pub record Laid (d e : ℕ) (starts : List ℕ) (n len : ℕ) : Type 0 where
  pub reach : (i : ℕ) → i < n → Reached d e starts len i
  pub placed : Placed (place_of d e starts) (d - 1) n len

-- ---- what is written, node k standing from word `at k` on

-- the index with the packed tree over the keys in it
unfoldable pub with_tree_at : (at : ℕ → ℕ) → ℕ → List ℕ → List ℕ → List ℕ
with_tree_at at d keys index = with_nodes at 0 (tree_of d keys) index

-- the index with n nodes of zeros
unfoldable pub without_nodes_at : (at : ℕ → ℕ) → ℕ → ℕ → List ℕ → List ℕ
without_nodes_at at d n index = with_nodes at 0 (replicate n (zeros (d - 1))) index

-- ---- extents

-- the extents that n nodes take, e nodes each
abbrev pub extents_of : ℕ → ℕ → ℕ
extents_of e n = (n + (e - 1)) / e

-- of the first count extents, `size` words each: all are listed, none runs past the index, no two overlap
pub record ExtentsFit (size : ℕ) (starts : List ℕ) (count len : ℕ) : Type 0 where
  pub listed : count ≤ length starts
  pub inside : (x : ℕ) → x < count → get_or starts x 0 + size ≤ len
  pub apart : (x y : ℕ) → x < count → y < count → (x ≡ y → ⊥)
      → (get_or starts x 0 + size ≤ get_or starts y 0) ⊎ (get_or starts y 0 + size ≤ get_or starts x 0)

-- ---- the index seen as one stretch

-- the first k nodes of w words, one after the other
unfoldable pub gathered : (at : ℕ → ℕ) → (w k : ℕ) → List ℕ → List ℕ
gathered at w zero index = []
gathered at w (suc k) index = gathered at w k index ++ part (at k) w index

-- the nodes of a stretch of so many words
abbrev pub nodes_in : ℕ → ℕ → ℕ
nodes_in d words = words / (d - 1)

-- the index as one stretch of `words` words: itself, or the nodes in its extents gathered
unfoldable pub stretch_of : (d e : ℕ) → List ℕ → ℕ → List ℕ → List ℕ
stretch_of d e starts words index = cond (eqb e 0) index (gathered (place_of d e starts) (d - 1) (nodes_in d words) index)

-- an index of len words is seen as one stretch of `words` words: all of them, or whole nodes in extents, each at its place
-- and apart from the others
pub record Seen (d e : ℕ) (starts : List ℕ) (words len : ℕ) : Type 0 where
  pub whole : e ≡ 0 → words ≡ len
  pub low : 0 < e → 2 ≤ d
  pub exact : 0 < e → node_word d (nodes_in d words) ≡ words
  pub laid : 0 < e → Laid d e starts (nodes_in d words) len

-- of the index nothing but words of the stretch's nodes was written: with the stretch that is left this tells every word
abbrev pub StretchFrame : (d e : ℕ) → List ℕ → ℕ → List ℕ → List ℕ → Type 0
StretchFrame d e starts words index index' = NodesFrame (place_of d e starts) (d - 1) (nodes_in d words) index index'
