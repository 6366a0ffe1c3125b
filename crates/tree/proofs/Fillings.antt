-- The laws of `FillingsAt` for an index in one stretch. Assumes nothing.
use Prim.Native.Nat.{ℕ, ◌+◌, ◌-◌, ◌≤◌}
use mathlib.Core.Path.{◌≡◌}
use mathlib.Core.List.{List, [], ◌∷◌, ◌++◌}
use native.Mathlib.Omega.{arith}
use native.Mathlib.Nat.{mul-le-mul_right}
use lib.ListN.{length, drop}
use lib.Seq.{drop-drop}
use Rattle.model.specs.Numbering.{node_word}
use Rattle.model.specs.Tree.{index_words, nodes_of, with_tree, Packed}
use Rattle.tree.specs.Append.{append_of}
use Rattle.tree.specs.Places.{with_tree_at}
use Rattle.tree.proofs.Rooms.{placed}
use Rattle.tree.proofs.FillingsAt as at

pub packed_none : (at : ℕ → ℕ) (d : ℕ) (xs : List ℕ) → 2 ≤ d → Packed at d [] xs
packed_none = at.packed_none

-- more keys take no fewer words
pub words_mono : (d j k : ℕ) → 2 ≤ d → j ≤ k → index_words d j ≤ index_words d k
words_mono d j k two h = mul-le-mul_right (d - 1) (at.count_mono d j k two h)

-- what lies past fewer words is the same, so what lies past more is
pub drop_more : (a b : ℕ) (xs ys : List ℕ) → a ≤ b → drop a xs ≡ drop a ys → drop b xs ≡ drop b ys
drop_more a b xs ys h e =
    let n : a + (b - a) ≡ b = omega arith in
    rw (← n, ← drop-drop (b - a) a xs, ← drop-drop (b - a) a ys, e)

module _ (d : ℕ) (two : 2 ≤ d) where
  -- one key more in an index into which the keys were written
  pub append_over : (keys : List ℕ) (x : ℕ) (index xs : List ℕ) → index_words d (length keys + 1) ≤ length xs → index ≡ with_tree d keys xs
      → append_of (node_word d) d (length keys) x index ≡ with_tree d (keys ++ (x ∷ [])) xs
  unfolding with_tree with_tree_at
  append_over keys x index xs room e = at.append_over (node_word d) d two keys x index xs (placed d (nodes_of d (length keys + 1)) (length xs) room) e
