-- The laws of `WrittenAt` for an index in one stretch, as `with_tree` and `without_nodes` have it. Assumes nothing.
use Prim.Native.Nat.{ℕ, zero, suc, ◌+◌, ◌-◌, ◌*◌, ◌≤◌, ◌<◌}
use mathlib.Core.Path.{◌≡◌, refl, sym, ap, ◌∙◌}
use mathlib.Core.List.{List, [], ◌++◌, append_assoc}
use native.Mathlib.Omega.{arith}
use native.Mathlib.Nat.{le_refl, zero-add, zero-mul, mul-le-mul_right}
use lib.ListN.{length, take, drop, replicate, length-replicate, take-append-drop, replicate-append-replicate}
use lib.Seq.{take-add, take_at, drop_at}
use Rattle.codec.specs.Parts.{zeros, part}
use Rattle.model.specs.Numbering.{node_word}
use Rattle.model.specs.Tree.{index_words, nodes_of, with_nodes, with_tree, without_nodes, Packed}
use Rattle.tree.specs.Places.{Placed, with_tree_at}
use Rattle.tree.proofs.Rooms.{placed}
use Rattle.tree.proofs.WrittenAt as at

module _ (d : ℕ) (two : 2 ≤ d) (keys index : List ℕ) (room : index_words d (length keys) ≤ length index) where
  pl : Placed (node_word d) (d - 1) (nodes_of d (length keys)) (length index)
  pl = placed d (nodes_of d (length keys)) (length index) room

  pub length-with : length (with_tree d keys index) ≡ length index
  unfolding with_tree with_tree_at
  length-with = (at.framed_with (node_word d) d two keys index pl).same_length

  pub past-with : drop (index_words d (length keys)) (with_tree d keys index) ≡ drop (index_words d (length keys)) index
  unfolding with_tree with_tree_at
  past-with = at.framed_past d (nodes_of d (length keys)) index (with_tree d keys index) (at.framed_with (node_word d) d two keys index pl)

  pub with_packed : Packed (node_word d) d keys (with_tree d keys index)
  unfolding with_tree with_tree_at
  with_packed = at.with_packed (node_word d) d two keys index pl

  -- to write a tree that is there already changes nothing
  pub packed_with : Packed (node_word d) d keys index → with_tree d keys index ≡ index
  unfolding with_tree with_tree_at
  packed_with = at.packed_with (node_word d) d two keys index pl

-- ---- nodes of zeros are one run of zeros

module _ (w : ℕ) (xs ys : List ℕ) where
  nodes-same : (n : ℕ) → ((i : ℕ) → i < n → part (i * w) w xs ≡ part (i * w) w ys) → take (n * w) xs ≡ take (n * w) ys
  nodes-same zero h = rw zero-mul
  nodes-same (suc n) h =
      let e : suc n * w ≡ n * w + w = omega arith in
      rw (e, take-add (n * w) w xs, take-add (n * w) w ys, nodes-same n (λ i l. h i (omega arith)), h n (le_refl (suc n)))

  same_by_nodes : (n : ℕ) → ((i : ℕ) → i < n → part (i * w) w xs ≡ part (i * w) w ys) → drop (n * w) xs ≡ drop (n * w) ys → xs ≡ ys
  same_by_nodes n h e = sym (take-append-drop (n * w) xs) ∙ rw (nodes-same n h, e) (take-append-drop (n * w) ys)

zeros-part : (a w n : ℕ) (ys : List ℕ) → a + w ≤ n → part a w (zeros n ++ ys) ≡ zeros w
zeros-part a w n ys h =
    let e : n ≡ a + (w + (n - a - w)) = omega arith in
    let f : zeros n ≡ zeros a ++ (zeros w ++ zeros (n - a - w)) =
    ap zeros e ∙ sym (replicate-append-replicate {A = ℕ} a (w + (n - a - w)) 0) ∙ ap (λ (zs : List ℕ). zeros a ++ zs) (sym (replicate-append-replicate {A = ℕ} w (n - a - w) 0)) in
    let g : zeros n ++ ys ≡ zeros a ++ (zeros w ++ (zeros (n - a - w) ++ ys)) =
    ap (λ (zs : List ℕ). zs ++ ys) f ∙ append_assoc (zeros a) (zeros w ++ zeros (n - a - w)) ys ∙ ap (λ (zs : List ℕ). zeros a ++ zs) (append_assoc (zeros w) (zeros (n - a - w)) ys) in
    ap (λ (zs : List ℕ). take w (drop a zs)) g ∙ ap (take w) (drop_at (zeros a) _ a (length-replicate a 0)) ∙ take_at (zeros w) _ w (length-replicate w 0)

module _ (d n : ℕ) (index : List ℕ) (room : n * (d - 1) ≤ length index) where
  pub without_is : without_nodes d n index ≡ zeros (n * (d - 1)) ++ drop (n * (d - 1)) index
  unfolding without_nodes
  without_is =
      let ns = replicate n (zeros (d - 1)) in
      let p = placed d n (length index) room in
      let count = length-replicate n (zeros (d - 1)) in
      let few : 0 + length (replicate n (zeros (d - 1))) ≤ n = omega (arith, count) in
      same_by_nodes (d - 1) (with_nodes (node_word d) 0 ns index) (zeros (n * (d - 1)) ++ drop (n * (d - 1)) index) n
      (λ i l. (rw (zero-add i) at (at.with_part (node_word d) (d - 1) n (length index) p ns 0 index (at.zero_words d n) few refl i (rw count l))) ∙ at.nth_same n i (zeros (d - 1)) [] l
      ∙ sym (zeros-part (i * (d - 1)) (d - 1) (n * (d - 1)) (drop (n * (d - 1)) index) (omega (arith, mul-le-mul_right (d - 1) l))))
      (at.framed_past d n index (with_nodes (node_word d) 0 ns index) (at.with_framed (node_word d) (d - 1) n (length index) p ns 0 index (at.zero_words d n) few refl) ∙ sym (drop_at (zeros (n * (d - 1))) _ (n * (d - 1)) (length-replicate (n * (d - 1)) 0)))
