-- The packed tree of 01 ("Packed tree", and of "One log by hand": "leaf 6 is node 9; the root over nine leaves is node 4,
-- and leaf 9 is node 14 under new root 13"), computed: node numbers, the words of whole trees, an index that holds one,
-- and page positions where "Slips this tree invites" go wrong. Assumes nothing.
use Prim.Native.Nat.{ℕ, zero, suc, ◌+◌}
use mathlib.Core.Path.{◌≡◌, refl}
use mathlib.Core.List.{List, [], ◌∷◌, ◌++◌, map}
use lib.ListN.{replicate}
use Rattle.codec.specs.Parts.{zeros}
use Rattle.model.specs.Records.{insertion, deletion}
use Rattle.model.specs.Shape.{valuation, cofactor, host, takers, leaves_of}
use Rattle.model.specs.Numbering.{nodes, leaf_node, inner_node, node_word}
use Rattle.model.specs.Tree.{tree_of, with_tree, without_nodes, page_position}
use Rattle.model.specs.Pages.{pages_of, page_times, index_need}
use Rattle.worked.proofs.Computing.{computing}
use Rattle.worked.proofs.WorkedLog.{worked_records}

-- f 0, f 1 and so on, n of them
firsts : (ℕ → ℕ) → ℕ → List ℕ
firsts f zero = []
firsts f (suc n) = f 0 ∷ firsts (λ i. f (suc i)) n

-- a, a + 10 and so on, n keys
tens : ℕ → ℕ → List ℕ
tens a zero = []
tens a (suc n) = a ∷ tens (a + 10) n

-- ---- node numbers

-- 01's numbers at d = 3
leaf-6 : leaf_node 3 6 ≡ 9
unfolding computing
leaf-6 = refl

-- the root over nine leaves is the node that leaf 3 opened: it takes the separators of leaves 3 and 6
root_of_nine : inner_node 3 3 ≡ 4
unfolding computing
root_of_nine = refl

root_takes : takers 3 3 9 ≡ 3 ∷ 6 ∷ []
unfolding computing
root_takes = refl

leaf-9 : leaf_node 3 9 ≡ 14
unfolding computing
leaf-9 = refl

new_root : inner_node 3 9 ≡ 13
unfolding computing
new_root = refl

-- "the new inner node is numbered before the leaf"
leaf_nodes : firsts (leaf_node 3) 12 ≡ 0 ∷ 2 ∷ 3 ∷ 5 ∷ 7 ∷ 8 ∷ 9 ∷ 11 ∷ 12 ∷ 14 ∷ 16 ∷ 17 ∷ []
unfolding computing firsts
leaf_nodes = refl

-- the nodes of 0 to 13 leaves
nodes-3 : firsts (nodes 3) 14 ≡ 0 ∷ 1 ∷ 3 ∷ 4 ∷ 6 ∷ 8 ∷ 9 ∷ 10 ∷ 12 ∷ 13 ∷ 15 ∷ 17 ∷ 18 ∷ 20 ∷ []
unfolding computing firsts
nodes-3 = refl

nodes-4 : firsts (nodes 4) 14 ≡ 0 ∷ 1 ∷ 3 ∷ 4 ∷ 5 ∷ 7 ∷ 9 ∷ 10 ∷ 11 ∷ 12 ∷ 14 ∷ 15 ∷ 16 ∷ 17 ∷ []
unfolding computing firsts
nodes-4 = refl

nodes-2 : firsts (nodes 2) 14 ≡ 0 ∷ 1 ∷ 3 ∷ 5 ∷ 7 ∷ 9 ∷ 11 ∷ 13 ∷ 15 ∷ 17 ∷ 19 ∷ 21 ∷ 23 ∷ 25 ∷ []
unfolding computing firsts
nodes-2 = refl

-- "how often d divides m": exact division by d, also where d is no prime
divided_by-4 : (valuation 4 8 ∷ cofactor 4 8 ∷ valuation 4 16 ∷ cofactor 4 16 ∷ []) ≡ 1 ∷ 2 ∷ 2 ∷ 1 ∷ []
unfolding computing
divided_by-4 = refl

-- the separator of leaf 6 at d = 3 goes to the open node of level 2, which leaf 3 opened; that of leaf 5 to leaf 4's
hosts : firsts (λ m. host 3 (suc m)) 10 ≡ 1 ∷ 1 ∷ 3 ∷ 4 ∷ 4 ∷ 3 ∷ 7 ∷ 7 ∷ 9 ∷ 10 ∷ []
unfolding computing firsts
hosts = refl

-- ---- whole trees

-- d = 3, keys 10 to 200: ten leaves, the right edge skips a level (root 13 stands over leaf 14)
tree-3 : tree_of 3 (tens 10 20) ≡
    (10 ∷ 20 ∷ []) ∷ (20 ∷ 40 ∷ []) ∷ (30 ∷ 40 ∷ []) ∷ (50 ∷ 60 ∷ []) ∷ (60 ∷ 120 ∷ []) ∷ (70 ∷ 80 ∷ []) ∷ (80 ∷ 100 ∷ []) ∷ (90 ∷ 100 ∷ [])
    ∷ (110 ∷ 120 ∷ []) ∷ (130 ∷ 140 ∷ []) ∷ (140 ∷ 160 ∷ []) ∷ (150 ∷ 160 ∷ []) ∷ (170 ∷ 180 ∷ []) ∷ (180 ∷ 0 ∷ []) ∷ (190 ∷ 200 ∷ []) ∷ []
unfolding computing tens
tree-3 = refl

-- d = 2: nodes of one word, and every leaf after the first opens a node
tree-2 : tree_of 2 (tens 10 5) ≡ (10 ∷ []) ∷ (10 ∷ []) ∷ (20 ∷ []) ∷ (20 ∷ []) ∷ (30 ∷ []) ∷ (30 ∷ []) ∷ (40 ∷ []) ∷ (40 ∷ []) ∷ (50 ∷ []) ∷ []
unfolding computing tens
tree-2 = refl

-- one page is one leaf; no page, no node
one_page : tree_of 4 (10 ∷ []) ≡ (10 ∷ 0 ∷ 0 ∷ []) ∷ []
unfolding computing
one_page = refl

no_page : tree_of 3 [] ≡ []
unfolding computing
no_page = refl

-- ---- an index

-- "Eight records, four pages, index words 10 30 | 30 0 | 40 60"; "words past the last node are not touched", and an
-- unused word of a node is zero whatever stood there
by_hand : with_tree 3 (page_times 2 worked_records) (replicate 9 555) ≡ 10 ∷ 30 ∷ 30 ∷ 0 ∷ 40 ∷ 60 ∷ 555 ∷ 555 ∷ 555 ∷ []
unfolding computing
by_hand = refl

by_hand_need : (pages_of 2 8 ∷ leaves_of 3 4 ∷ index_need 3 2 8 ∷ []) ≡ 4 ∷ 2 ∷ 6 ∷ []
unfolding computing
by_hand_need = refl

one_page_in : with_tree 4 (10 ∷ []) (replicate 4 555) ≡ 10 ∷ 0 ∷ 0 ∷ 555 ∷ []
unfolding computing
one_page_in = refl

no_page_in : with_tree 3 [] (replicate 4 555) ≡ replicate 4 555
unfolding computing
no_page_in = refl

-- no word is needed where there is no record, so an empty index will do
no_need : (index_need 3 2 0 ∷ index_need 2 2 1 ∷ index_need 64 64 64 ∷ index_need 64 64 65 ∷ []) ≡ 0 ∷ 1 ∷ 63 ∷ 63 ∷ []
unfolding computing
no_need = refl

-- "node k starting at word k × (d − 1)"
node_words : map (node_word 4) (0 ∷ 1 ∷ 5 ∷ []) ≡ 0 ∷ 3 ∷ 15 ∷ []
unfolding computing
node_words = refl

-- three nodes of zeros, the word behind them as it was
cleared : without_nodes 3 3 (replicate 7 555) ≡ zeros 6 ++ (555 ∷ [])
unfolding computing
cleared = refl

-- ---- positions

-- "the number of keys ≤ t, less one, or 0 if there are none"
positions_by_hand : map (page_position (page_times 2 worked_records)) (0 ∷ 9 ∷ 10 ∷ 29 ∷ 30 ∷ 35 ∷ 40 ∷ 59 ∷ 60 ∷ []) ≡ 0 ∷ 0 ∷ 0 ∷ 0 ∷ 1 ∷ 1 ∷ 2 ∷ 2 ∷ 3 ∷ []
unfolding computing
positions_by_hand = refl

no_keys : page_position [] 5 ≡ 0
unfolding computing
no_keys = refl

-- "a time above a separator but below the next leaf's first key … belongs to the last page before that leaf": 185 is
-- above separator 180 and below 190, the first key of leaf 9, whose first page is 18
below_next_leaf : map (page_position (tens 10 20)) (180 ∷ 185 ∷ 190 ∷ 45 ∷ 125 ∷ []) ≡ 17 ∷ 17 ∷ 18 ∷ 3 ∷ 11 ∷ []
unfolding computing tens
below_next_leaf = refl

-- "the time of an update split over two pages …: it is on the later one": insert 7 at 10, update 7 at 20, N = 2
split-keys : page_times 2 (insertion 0 10 7 50 ∷ deletion 1 20 7 50 ∷ insertion 2 20 7 44 ∷ []) ≡ 10 ∷ 20 ∷ []
unfolding computing
split-keys = refl

split-position : map (page_position (10 ∷ 20 ∷ [])) (10 ∷ 19 ∷ 20 ∷ []) ≡ 0 ∷ 0 ∷ 1 ∷ []
unfolding computing
split-position = refl
