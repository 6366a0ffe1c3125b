-- The words of an index that a packed tree was written into are below a bound that its own words and the keys are
-- below; and the keys of a log are 64-bit times. Assumes nothing.
use Prim.Native.Nat.{ℕ, zero, suc, ◌+◌, ◌-◌, ◌*◌, ◌%◌, ◌^◌, ◌<◌}
use mathlib.Core.List.{List, [], ◌∷◌, ◌++◌, map}
use mathlib.Core.Bool.{Bool, true, false, cond}
use native.Mathlib.Omega.{arith}
use lib.ListN.{length, get_or, take, drop, replicate}
use lib.Seq.{get_or-drop}
use lib.Dec.{eqb}
use Rattle.codec.specs.Parts.{put}
use Rattle.model.specs.Records.{Rec}
use Rattle.model.specs.Shape.{opens, padded, leaves_of, leaf_words, separator, takers, inner_words}
use Rattle.model.specs.Numbering.{node_word}
use Rattle.model.specs.Pages.{page_times_from}
use Rattle.model.specs.Tree.{allotted, tree_of, with_nodes, with_tree}
use Rattle.logs.specs.Widths.{RecordsFit}

-- every number of a list is below b; what lies past its end reads as 0
abbrev pub Below : ℕ → List ℕ → Type 0
Below b xs = (i : ℕ) → get_or xs i 0 < b

unfoldable pub NodesBelow : ℕ → List (List ℕ) → Type 0
NodesBelow b [] = Unit
NodesBelow b (node ∷ ns) = Below b node × NodesBelow b ns

module _ (b : ℕ) (some : 0 < b) where
  below-nil : Below b []
  below-nil i = some

  below-cons : (x : ℕ) (xs : List ℕ) → x < b → Below b xs → Below b (x ∷ xs)
  below-cons x xs h k zero = h
  below-cons x xs h k (suc i) = k i

  below_append : (xs ys : List ℕ) → Below b xs → Below b ys → Below b (xs ++ ys)
  below_append [] ys h k = k
  below_append (x ∷ xs) ys h k = below-cons x (xs ++ ys) (h 0) (below_append xs ys (λ i. h (suc i)) k)

  below-take : (n : ℕ) (xs : List ℕ) → Below b xs → Below b (take n xs)
  below-take zero xs h = below-nil
  below-take (suc n) [] h = below-nil
  below-take (suc n) (x ∷ xs) h = below-cons x (take n xs) (h 0) (below-take n xs (λ i. h (suc i)))

  below-drop : (n : ℕ) (xs : List ℕ) → Below b xs → Below b (drop n xs)
  below-drop n xs h i = rw (get_or-drop n xs i 0) (h (n + i))

  below-zeros : (n : ℕ) → Below b (replicate n 0)
  below-zeros zero = below-nil
  below-zeros (suc n) = below-cons 0 (replicate n 0) some (below-zeros n)

  below-map : (f : ℕ → ℕ) (xs : List ℕ) → ((x : ℕ) → f x < b) → Below b (map f xs)
  below-map f [] h = below-nil
  below-map f (x ∷ xs) h = below-cons (f x) (map f xs) (h x) (below-map f xs h)

  pub below_put : (xs : List ℕ) (at : ℕ) (vs : List ℕ) → Below b xs → Below b vs → Below b (put xs at vs)
  below_put xs at vs h k =
      below_append (take at xs) (vs ++ drop (at + length vs) xs) (below-take at xs h)
      (below_append vs (drop (at + length vs) xs) k (below-drop (at + length vs) xs h))

  below-padded : (w : ℕ) (xs : List ℕ) → Below b xs → Below b (padded w xs)
  below-padded w xs h = below_append xs (replicate (w - length xs) 0) h (below-zeros (w - length xs))

  -- ---- nodes

  nodes-append : (ms ns : List (List ℕ)) → NodesBelow b ms → NodesBelow b ns → NodesBelow b (ms ++ ns)
  unfolding NodesBelow
  nodes-append [] ns h k = k
  nodes-append (m ∷ ms) ns h k = (h.0, nodes-append ms ns h.1 k)

  nodes-allotted : (d : ℕ) (inner leaf : ℕ → List ℕ) → ((m : ℕ) → Below b (inner m)) → ((m : ℕ) → Below b (leaf m)) → (n : ℕ) → NodesBelow b (allotted d inner leaf n)
  unfolding allotted NodesBelow
  nodes-allotted d inner leaf h k zero = tt
  nodes-allotted d inner leaf h k (suc n) =
      nodes-append (allotted d inner leaf n) (cond (opens d n) (inner n ∷ []) [] ++ (leaf n ∷ [])) (nodes-allotted d inner leaf h k n) (by (opens d n))
    where
      by : (t : Bool) → NodesBelow b (cond t (inner n ∷ []) [] ++ (leaf n ∷ []))
      by true = (h n, (k n, tt))
      by false = (k n, tt)

  below-nodes : (at : ℕ → ℕ) (k : ℕ) (ns : List (List ℕ)) (index : List ℕ) → NodesBelow b ns → Below b index → Below b (with_nodes at k ns index)
  unfolding with_nodes NodesBelow
  below-nodes at k [] index h g = g
  below-nodes at k (node ∷ ns) index h g = below-nodes at (suc k) ns (put index (at k) node) h.1 (below_put index (at k) node g h.0)

  pub below_with_tree : (d : ℕ) (keys index : List ℕ) → Below b keys → Below b index → Below b (with_tree d keys index)
  unfolding with_tree tree_of leaf_words inner_words
  below_with_tree d keys index h g =
      below-nodes (node_word d) 0 (tree_of d keys) index
      (nodes-allotted d (inner_words d keys (leaves_of d (length keys))) (leaf_words d keys)
      (λ m. below-padded (d - 1) (map (separator d keys) (takers d m (leaves_of d (length keys)))) (below-map (separator d keys) (takers d m (leaves_of d (length keys))) (λ x. h (x * (d - 1) - 1))))
      (λ m. below-padded (d - 1) (take (d - 1) (drop (m * (d - 1)) keys)) (below-take (d - 1) (drop (m * (d - 1)) keys) (below-drop (m * (d - 1)) keys h)))
      (leaves_of d (length keys)))
      g

-- ---- keys

pub keys_below : (N k : ℕ) (rs : List Rec) → RecordsFit rs → Below (2 ^ 64) (page_times_from N k rs)
unfolding page_times_from RecordsFit
keys_below N k [] f = below-nil (2 ^ 64) (omega arith)
keys_below N k (r ∷ rs) f = by (keys_below N (suc k) rs f.1) (eqb (k % N) 0)
  where
    by : Below (2 ^ 64) (page_times_from N (suc k) rs) → (t : Bool) → Below (2 ^ 64) (cond t (r.time ∷ page_times_from N (suc k) rs) (page_times_from N (suc k) rs))
    by ih true = below-cons (2 ^ 64) (omega arith) r.time (page_times_from N (suc k) rs) f.0.time_fits ih
    by ih false = ih
