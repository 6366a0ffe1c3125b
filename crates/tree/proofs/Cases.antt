-- The tree as the code counts and fills it, computed: values that were found by hand and by an independent model. Those of the
-- model's definitions are in worked/TreeCases. Assumes nothing.
use Prim.Native.Nat.{ℕ, zero, suc, ◌+◌, ◌≤◌, ◌<◌}
use mathlib.Core.Path.{◌≡◌, refl}
use mathlib.Core.Logic.{◌⊎◌, inl, inr}
use mathlib.Core.List.{List, [], ◌∷◌, map}
use native.Mathlib.Omega.{arith}
use lib.ListN.{get_or}
use Rattle.model.specs.Shape.{opens, host, last_opened, valuation, valuation_up_to, cofactor, cofactor_up_to, takers, leaf_words, inner_words}
use Rattle.model.specs.Numbering.{opened, nodes, leaf_node, node_word}
use Rattle.model.specs.Tree.{allotted, tree_of, index_words, with_nodes, with_tree, without_nodes, keys_up_to, page_position}
use Rattle.tree.specs.Levels.{inners, inners_up_to}
use Rattle.tree.specs.Append.{slot, with_separator, with_leaf, append_of, fill_of}
use Rattle.tree.specs.Places.{place_of, without_nodes_at, extents_of, ExtentsFit, gathered, stretch_of, Seen}
use Rattle.tree.proofs.Stretches.{seen_extents}

-- f 0, f 1, .., n values
listed : (ℕ → ℕ) → ℕ → List ℕ
listed f zero = []
listed f (suc n) = f 0 ∷ listed (λ i. f (suc i)) n

-- ---- counts

-- the inner nodes that the leaves up to m opened, by levels
inners-3 : listed (inners 3) 12 ≡ 0 ∷ 1 ∷ 1 ∷ 2 ∷ 3 ∷ 3 ∷ 3 ∷ 4 ∷ 4 ∷ 5 ∷ 6 ∷ 6 ∷ []
unfolding inners inners_up_to listed
inners-3 = refl

-- no page, one page, a full leaf, two leaves
words-3 : listed (index_words 3) 4 ≡ 0 ∷ 2 ∷ 2 ∷ 6 ∷ []
unfolding nodes opened opens cofactor cofactor_up_to listed
words-3 = refl

-- ---- an index of eight words, all of them 9 before: four keys in three nodes, by the two ways

nines : List ℕ
nines = 9 ∷ 9 ∷ 9 ∷ 9 ∷ 9 ∷ 9 ∷ 9 ∷ 9 ∷ []

filled-3 : fill_of (node_word 3) 3 0 (10 ∷ 30 ∷ 40 ∷ 60 ∷ []) nines ≡ 10 ∷ 30 ∷ 30 ∷ 0 ∷ 40 ∷ 60 ∷ 9 ∷ 9 ∷ []
unfolding nines fill_of append_of with_leaf with_separator slot leaf_node nodes opened opens host last_opened valuation valuation_up_to cofactor cofactor_up_to
filled-3 = refl

written-3 : with_tree 3 (10 ∷ 30 ∷ 40 ∷ 60 ∷ []) nines ≡ 10 ∷ 30 ∷ 30 ∷ 0 ∷ 40 ∷ 60 ∷ 9 ∷ 9 ∷ []
unfolding nines with_tree with_nodes tree_of allotted inner_words leaf_words takers host last_opened opens valuation valuation_up_to cofactor cofactor_up_to
written-3 = refl

cleared-3 : without_nodes 3 3 nines ≡ 0 ∷ 0 ∷ 0 ∷ 0 ∷ 0 ∷ 0 ∷ 9 ∷ 9 ∷ []
unfolding nines without_nodes with_nodes
cleared-3 = refl

-- ---- the same three nodes in extents of two, from words 5 and 0 of ten

tens : List ℕ
tens = 90 ∷ 91 ∷ 92 ∷ 93 ∷ 94 ∷ 95 ∷ 96 ∷ 97 ∷ 98 ∷ 99 ∷ []

places-3 : listed (place_of 3 2 (5 ∷ 0 ∷ [])) 4 ≡ 5 ∷ 7 ∷ 0 ∷ 2 ∷ []
unfolding place_of listed
places-3 = refl

filled_extents : fill_of (place_of 3 2 (5 ∷ 0 ∷ [])) 3 0 (10 ∷ 30 ∷ 40 ∷ 60 ∷ []) tens ≡ 40 ∷ 60 ∷ 92 ∷ 93 ∷ 94 ∷ 10 ∷ 30 ∷ 30 ∷ 0 ∷ 99 ∷ []
unfolding tens place_of fill_of append_of with_leaf with_separator slot leaf_node nodes opened opens host last_opened valuation valuation_up_to cofactor cofactor_up_to
filled_extents = refl

cleared_extents : without_nodes_at (place_of 3 2 (5 ∷ 0 ∷ [])) 3 3 tens ≡ 0 ∷ 0 ∷ 92 ∷ 93 ∷ 94 ∷ 0 ∷ 0 ∷ 0 ∷ 0 ∷ 99 ∷ []
unfolding tens place_of without_nodes_at with_nodes
cleared_extents = refl

-- seen as one stretch of six words: nodes 0, 1 and 2, whatever lies between
stretch-3 : stretch_of 3 2 (5 ∷ 0 ∷ []) 6 tens ≡ 95 ∷ 96 ∷ 97 ∷ 98 ∷ 90 ∷ 91 ∷ []
unfolding tens place_of gathered stretch_of
stretch-3 = refl

fit-3 : ExtentsFit (node_word 3 2) (5 ∷ 0 ∷ []) (extents_of 2 3) 10
fit-3 = record { listed = omega arith; inside = inside; apart = apart }
  where
    inside : (x : ℕ) → x < 2 → get_or (5 ∷ 0 ∷ []) x 0 + 4 ≤ 10
    inside zero l = omega arith
    inside (suc zero) l = omega arith
    inside (suc (suc x)) l = absurd (omega arith)

    apart : (x y : ℕ) → x < 2 → y < 2 → (x ≡ y → ⊥) → (get_or (5 ∷ 0 ∷ []) x 0 + 4 ≤ get_or (5 ∷ 0 ∷ []) y 0) ⊎ (get_or (5 ∷ 0 ∷ []) y 0 + 4 ≤ get_or (5 ∷ 0 ∷ []) x 0)
    apart zero zero l k ne = absurd (ne refl)
    apart zero (suc zero) l k ne = inr (omega arith)
    apart zero (suc (suc y)) l k ne = absurd (omega arith)
    apart (suc zero) zero l k ne = inl (omega arith)
    apart (suc zero) (suc zero) l k ne = absurd (ne refl)
    apart (suc zero) (suc (suc y)) l k ne = absurd (omega arith)
    apart (suc (suc x)) y l k ne = absurd (omega arith)

seen-3 : Seen 3 2 (5 ∷ 0 ∷ []) 6 10
seen-3 = seen_extents 3 2 3 10 (5 ∷ 0 ∷ []) (omega arith) (omega arith) fit-3

-- ---- positions: a time past a separator and before the next leaf's first key stays on the page before

positions : map (page_position (10 ∷ 30 ∷ 40 ∷ 60 ∷ [])) (0 ∷ 10 ∷ 29 ∷ 30 ∷ 35 ∷ 40 ∷ 60 ∷ 99 ∷ []) ≡ 0 ∷ 0 ∷ 0 ∷ 1 ∷ 1 ∷ 2 ∷ 3 ∷ 3 ∷ []
unfolding keys_up_to
positions = refl
