-- The packed tree over a list of keys (01, "Packed tree"), and an index that holds it.
-- `tree_of`, `with_tree`, `Packed` and `page_position` are what contracts cite. Assumes nothing.
use Rattle.std.specs.Prelude.{ℕ, zero, suc, ◌+◌, ◌-◌, ◌/◌, ◌%◌, ◌≤◌, ◌<◌, ◌≡◌, ◌⊎◌, not, cond, ◌&&◌, length, get_or, take, drop, replicate, leb, eqb}
use mathlib.Core.List.{List, [], ◌∷◌, ◌++◌, Memᴰ}
use Rattle.codec.specs.Parts.{zeros, put}
use Rattle.model.specs.Shape.{opens, host, leaves_of, leaf_words, inner_words}
use Rattle.model.specs.Numbering.{nodes, leaf_node, inner_node, node_word}

-- the nodes in the order of allocation, for m leaves: a new inner node, then its leaf
unfoldable pub allotted : ℕ → (inner leaf : ℕ → List ℕ) → ℕ → List (List ℕ)
allotted d inner leaf zero = []
allotted d inner leaf (suc m) = allotted d inner leaf m ++ (cond (opens d m) (inner m ∷ []) [] ++ (leaf m ∷ []))

-- the nodes of the packed tree over the keys
unfoldable pub tree_of : ℕ → List ℕ → List (List ℕ)
tree_of d keys = allotted d (inner_words d keys (leaves_of d (length keys))) (leaf_words d keys) (leaves_of d (length keys))

-- the nodes that k keys take, and the words of an index that has room for them and no more
abbrev pub nodes_of : ℕ → ℕ → ℕ
nodes_of d k = nodes d (leaves_of d k)

abbrev pub index_words : ℕ → ℕ → ℕ
index_words d k = node_word d (nodes_of d k)

-- ---- an index, node k standing from word `at k` on

-- the index with the listed nodes written, from node k on; "words past the last node are not touched"
unfoldable pub with_nodes : (at : ℕ → ℕ) → ℕ → List (List ℕ) → List ℕ → List ℕ
with_nodes at k [] index = index
with_nodes at k (node ∷ rest) index = with_nodes at (suc k) rest (put index (at k) node)

-- the index with the packed tree over the keys in it
unfoldable pub with_tree : ℕ → List ℕ → List ℕ → List ℕ
with_tree d keys index = with_nodes (node_word d) 0 (tree_of d keys) index

-- the index with k nodes of zeros
unfoldable pub without_nodes : ℕ → ℕ → List ℕ → List ℕ
without_nodes d k index = with_nodes (node_word d) 0 (replicate k (zeros (d - 1))) index

-- the index holds the packed tree over the keys
abbrev pub Packed : (at : ℕ → ℕ) → ℕ → List ℕ → List ℕ → Type 0
Packed at d keys index = (k : ℕ) → k < length (tree_of d keys) → take (d - 1) (drop (at k) index) ≡ get_or (tree_of d keys) k []

-- word i is in none of the first n nodes of w words
abbrev pub Outside : (at : ℕ → ℕ) → (w n i : ℕ) → Type 0
Outside at w n i = (k : ℕ) → k < n → (i < at k) ⊎ (at k + w ≤ i)

-- of xs nothing but words of the first n nodes of w words was written, which left ys
pub record NodesFrame (at : ℕ → ℕ) (w n : ℕ) (xs ys : List ℕ) : Type 0 where
  pub same_length : length ys ≡ length xs
  pub same_outside : (i : ℕ) → Outside at w n i → get_or ys i 0 ≡ get_or xs i 0

-- ---- what an append may write

-- the nodes that one key after k others is written to: the last leaf, or the leaf that is then needed, and with it the node that
-- takes the separator, a new one or "the open node of that level"
unfoldable pub nodes_written : ℕ → ℕ → List ℕ
nodes_written d k =
    let m = k / (d - 1) in
    cond (eqb (k % (d - 1)) 0 && not (eqb m 0)) (inner_node d (host d m) ∷ leaf_node d m ∷ []) (leaf_node d m ∷ [])

-- of the index xs of `from` keys nothing but words of those nodes was written, up to `to` keys
pub record AppendsFrame (d from to : ℕ) (xs ys : List ℕ) : Type 0 where
  pub same_length : length ys ≡ length xs
  pub same_outside : (i : ℕ) → ((k node : ℕ) → from ≤ k → k < to → Memᴰ node (nodes_written d k) → (i < node_word d node) ⊎ (node_word d node + (d - 1) ≤ i))
      → get_or ys i 0 ≡ get_or xs i 0

-- ---- positions

-- keys rise strictly
abbrev pub Rising : List ℕ → Type 0
Rising keys = (i j : ℕ) → i < j → j < length keys → get_or keys i 0 < get_or keys j 0

-- the number of keys at or before t
unfoldable pub keys_up_to : List ℕ → ℕ → ℕ
keys_up_to [] t = 0
keys_up_to (x ∷ xs) t = cond (leb x t) (suc (keys_up_to xs t)) (keys_up_to xs t)

-- "The page position of t is the number of keys ≤ t, less one, or 0 if there are none"
abbrev pub page_position : List ℕ → ℕ → ℕ
page_position keys t = keys_up_to keys t - 1
