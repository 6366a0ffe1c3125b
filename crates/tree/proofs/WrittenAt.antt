-- Laws of `with_nodes` and `with_tree_at`: an index with nodes of w words written into it, wherever they stand, if they
-- are placed apart. Assumes nothing.
use Prim.Native.Nat.{ℕ, zero, suc, ◌+◌, ◌-◌, ◌*◌, ◌≤◌, ◌<◌}
use mathlib.Core.Path.{◌≡◌, refl, sym, ap, ap₂, ◌∙◌}
use mathlib.Core.Logic.{◌⊎◌, inl, inr, ⊎_elim}
use mathlib.Core.List.{List, [], ◌∷◌, ◌++◌}
use native.Mathlib.Omega.{arith}
use native.Mathlib.Numerals.{add-one}
use native.Mathlib.Nat.{le_refl, zero-add, not-suc-le-zero, le_of_suc-le-suc, mul-le-mul_right}
use lib.ListN.{length, get_or, take, drop, replicate, length-replicate, length-drop}
use lib.Seq.{get_or-take, get_or-drop}
use Rattle.codec.specs.Parts.{put, zeros, part}
use Rattle.codec.proofs.PartLaws.{length-put, get_d_put-before, get_d_put-after}
use Rattle.model.specs.Numbering.{node_word}
use Rattle.model.specs.Tree.{tree_of, nodes_of, with_nodes, Packed, Outside, NodesFrame}
use Rattle.tree.specs.Places.{Placed, with_tree_at, without_nodes_at}
use Rattle.tree.proofs.Orders.{le_or_lt}
use Rattle.tree.proofs.Parts.{part-put-same, part-put_other}
use Rattle.tree.proofs.Packings.{Words, tree_length, tree_words}

-- ---- frames

module _ (at : ℕ → ℕ) (w : ℕ) where
  pub framed_same : (n : ℕ) (xs : List ℕ) → NodesFrame at w n xs xs
  framed_same n xs = record { same_length = refl; same_outside = λ i o. refl }

  pub framed_then : {n : ℕ} {xs ys zs : List ℕ} → NodesFrame at w n xs ys → NodesFrame at w n ys zs → NodesFrame at w n xs zs
  framed_then a b = record { same_length = b.same_length ∙ a.same_length; same_outside = λ i o. b.same_outside i o ∙ a.same_outside i o }

  pub framed_wide : {m n : ℕ} {xs ys : List ℕ} → m ≤ n → NodesFrame at w m xs ys → NodesFrame at w n xs ys
  framed_wide l a = record { same_length = a.same_length; same_outside = λ i o. a.same_outside i (λ j q. o j (omega arith)) }

-- ---- two indexes are one if their nodes are and the words in no node

same_words : (xs ys : List ℕ) → length xs ≡ length ys → ((i : ℕ) → get_or xs i 0 ≡ get_or ys i 0) → xs ≡ ys
same_words [] [] e h = refl
same_words [] (y ∷ ys) e h = absurd (omega arith)
same_words (x ∷ xs) [] e h = absurd (omega arith)
same_words (x ∷ xs) (y ∷ ys) e h = ap₂ (λ (z : ℕ) (zs : List ℕ). z ∷ zs) (h 0) (same_words xs ys (omega arith) (λ i. h (suc i)))

module _ (at : ℕ → ℕ) (w : ℕ) where
  -- each word is in a node or in none
  abbrev Within : ℕ → ℕ → Type 0
  Within n i = (j : ℕ) × ((j < n) × ((at j ≤ i) × (i < at j + w)))

  where-is : (n i : ℕ) → Within n i ⊎ Outside at w n i
  where-is zero i = inr (λ j l. absurd (not-suc-le-zero l))
  where-is (suc n) i = ⊎_elim (λ k. inl (k.0, (omega (arith, k.1.0), k.1.1))) here (where-is n i)
    where
      out : Outside at w n i → (i < at n) ⊎ (at n + w ≤ i) → Outside at w (suc n) i
      out o h j l = ⊎_elim (λ q. by (omega arith)) (λ q. o j q) (le_or_lt n j)
        where
          by : j ≡ n → (i < at j) ⊎ (at j + w ≤ i)
          by e = rw e h

      here : Outside at w n i → Within (suc n) i ⊎ Outside at w (suc n) i
      here o = ⊎_elim (λ p. ⊎_elim (λ q. inr (out o (inr q))) (λ q. inl (n, (le_refl (suc n), (p, q)))) (le_or_lt (at n + w) i)) (λ p. inr (out o (inl p))) (le_or_lt (at n) i)

  pub same_by_nodes : (n : ℕ) (xs ys : List ℕ) → ((i : ℕ) → i < n → part (at i) w xs ≡ part (at i) w ys) → NodesFrame at w n xs ys → xs ≡ ys
  same_by_nodes n xs ys h f = same_words xs ys (sym f.same_length) (λ i. ⊎_elim (inside i) (λ o. sym (f.same_outside i o)) (where-is n i))
    where
      word : (a i : ℕ) (zs : List ℕ) → i < w → get_or (take w (drop a zs)) i 0 ≡ get_or zs (a + i) 0
      word a i zs l = get_or-take w (drop a zs) i 0 l ∙ get_or-drop a zs i 0

      inside : (i : ℕ) → Within n i → get_or xs i 0 ≡ get_or ys i 0
      inside i k =
          let a = at k.0 in
          let e : a + (i - a) ≡ i = omega (arith, k.1.1.0) in
          let l : i - a < w = omega (arith, k.1.1) in
          ap (λ (x : ℕ). get_or xs x 0) (sym e) ∙ sym (word a (i - a) xs l) ∙ ap (λ (zs : List ℕ). get_or zs (i - a) 0) (h k.0 k.1.0) ∙ word a (i - a) ys l ∙ ap (λ (x : ℕ). get_or ys x 0) e

-- ---- nodes written one after the other

words_rest : (w : ℕ) (node : List ℕ) (ns : List (List ℕ)) → Words w (node ∷ ns) → Words w ns
words_rest w node ns h i l = h (suc i) (omega arith)

module _ (at : ℕ → ℕ) (w n len : ℕ) (pl : Placed at w n len) where
  -- one node
  module _ (k : ℕ) (node xs : List ℕ) (there : k < n) (wide : length node ≡ w) (long : length xs ≡ len) where
    fit : at k + w ≤ length xs
    fit = omega (arith, pl.room k there)

    pub node_framed : NodesFrame at w n xs (put xs (at k) node)
    node_framed = record { same_length = length-put xs (at k) node (omega (arith, fit)); same_outside = rest }
      where
        rest : (i : ℕ) → Outside at w n i → get_or (put xs (at k) node) i 0 ≡ get_or xs i 0
        rest i o = ⊎_elim (λ q. get_d_put-before i xs (at k) node 0 q (omega (arith, fit))) (λ q. get_d_put-after i xs (at k) node 0 (omega arith) (omega (arith, fit))) (o k there)

    pub node_other : (p : ℕ) → p < n → (p ≡ k → ⊥) → part (at p) w (put xs (at k) node) ≡ part (at p) w xs
    node_other p l ne = part-put_other w xs (at p) (at k) node wide (omega (arith, fit)) (pl.apart p k l there ne)

    node-same : part (at k) w (put xs (at k) node) ≡ node
    node-same = part-put-same w xs (at k) node wide (omega (arith, fit))

  pub with_framed : (ns : List (List ℕ)) (k : ℕ) (xs : List ℕ) → Words w ns → k + length ns ≤ n → length xs ≡ len → NodesFrame at w n xs (with_nodes at k ns xs)
  unfolding with_nodes
  with_framed [] k xs h l e = framed_same at w n xs
  with_framed (node ∷ ns) k xs h l e =
      let f = node_framed k node xs (omega arith) (h 0 (omega arith)) e in
      framed_then at w f (with_framed ns (suc k) (put xs (at k) node) (words_rest w node ns h) (omega arith) (f.same_length ∙ e))

  -- the nodes before node k are not touched
  with-before : (ns : List (List ℕ)) (k : ℕ) (xs : List ℕ) → Words w ns → k + length ns ≤ n → length xs ≡ len → (i : ℕ) → i < k → part (at i) w (with_nodes at k ns xs) ≡ part (at i) w xs
  unfolding with_nodes
  with-before [] k xs h l e i b = refl
  with-before (node ∷ ns) k xs h l e i b =
      let f = node_framed k node xs (omega arith) (h 0 (omega arith)) e in
      with-before ns (suc k) (put xs (at k) node) (words_rest w node ns h) (omega arith) (f.same_length ∙ e) i (omega arith)
      ∙ node_other k node xs (omega arith) (h 0 (omega arith)) e i (omega arith) (λ z. omega arith)

  pub with_part : (ns : List (List ℕ)) (k : ℕ) (xs : List ℕ) → Words w ns → k + length ns ≤ n → length xs ≡ len → (i : ℕ) → i < length ns → part (at (k + i)) w (with_nodes at k ns xs) ≡ get_or ns i []
  unfolding with_nodes
  with_part [] k xs h l e i b = absurd (not-suc-le-zero b)
  with_part (node ∷ ns) k xs h l e zero b =
      let f = node_framed k node xs (omega arith) (h 0 (omega arith)) e in
      let z : k + 0 ≡ k = omega arith in
      rw z (with-before ns (suc k) (put xs (at k) node) (words_rest w node ns h) (omega arith) (f.same_length ∙ e) k (le_refl (suc k)) ∙ node-same k node xs (omega arith) (h 0 (omega arith)) e)
  with_part (node ∷ ns) k xs h l e (suc i) b =
      let f = node_framed k node xs (omega arith) (h 0 (omega arith)) e in
      let z : k + suc i ≡ suc k + i = omega arith in
      rw z (with_part ns (suc k) (put xs (at k) node) (words_rest w node ns h) (omega arith) (f.same_length ∙ e) i (le_of_suc-le-suc b))

-- ---- the packed tree
module _ (at : ℕ → ℕ) (d : ℕ) (two : 2 ≤ d) (keys index : List ℕ) (pl : Placed at (d - 1) (nodes_of d (length keys)) (length index)) where
  count : 0 + length (tree_of d keys) ≤ nodes_of d (length keys)
  count = omega (arith, tree_length at d two keys index)

  pub framed_with : NodesFrame at (d - 1) (nodes_of d (length keys)) index (with_tree_at at d keys index)
  unfolding with_tree_at
  framed_with = with_framed at (d - 1) _ _ pl (tree_of d keys) 0 index (tree_words d two keys) count refl

  pub with_packed : Packed at d keys (with_tree_at at d keys index)
  unfolding with_tree_at
  with_packed i l = rw (zero-add i) at (with_part at (d - 1) _ _ pl (tree_of d keys) 0 index (tree_words d two keys) count refl i l)

  -- no other index of that kind holds the tree
  pub with_unique : (ys : List ℕ) → Packed at d keys ys → NodesFrame at (d - 1) (nodes_of d (length keys)) index ys → ys ≡ with_tree_at at d keys index
  with_unique ys h f =
      let n = tree_length at d two keys index in
      same_by_nodes at (d - 1) (nodes_of d (length keys)) ys (with_tree_at at d keys index)
      (λ i l. h i (rw n l) ∙ sym (with_packed i (rw n l)))
      (record { same_length = framed_with.same_length ∙ sym f.same_length; same_outside = λ i o. framed_with.same_outside i o ∙ sym (f.same_outside i o) })

  -- to write a tree that is there already changes nothing
  pub packed_with : Packed at d keys index → with_tree_at at d keys index ≡ index
  packed_with h = sym (with_unique index h (framed_same at (d - 1) _ index))

-- ---- nodes of zeros

pub nth_same : {A : Type 0} (n i : ℕ) (x y : A) → i < n → get_or (replicate n x) i y ≡ x
nth_same zero i x y h = absurd (not-suc-le-zero h)
nth_same (suc n) zero x y h = refl
nth_same (suc n) (suc i) x y h = nth_same n i x y (le_of_suc-le-suc h)

pub zero_words : (d n : ℕ) → Words (d - 1) (replicate n (zeros (d - 1)))
zero_words d n i l = ap length (nth_same n i (zeros (d - 1)) [] (rw (length-replicate n (zeros (d - 1))) at l)) ∙ length-replicate (d - 1) 0

with_snoc : (at : ℕ → ℕ) (ns : List (List ℕ)) (k : ℕ) (node xs : List ℕ) → with_nodes at k (ns ++ (node ∷ [])) xs ≡ put (with_nodes at k ns xs) (at (k + length ns)) node
unfolding with_nodes
with_snoc at [] k node xs = ap (λ (i : ℕ). put xs (at i) node) (omega arith)
with_snoc at (m ∷ ns) k node xs = with_snoc at ns (suc k) node (put xs (at k) m) ∙ ap (λ (i : ℕ). put (with_nodes at (suc k) ns (put xs (at k) m)) (at i) node) (omega arith)

repeated : {A : Type 0} (n : ℕ) (x : A) → replicate (suc n) x ≡ replicate n x ++ (x ∷ [])
repeated zero x = refl
repeated {A = A} (suc n) x = ap (λ (ys : List A). x ∷ ys) (repeated n x)

-- a node of zeros more
pub without_next : (at : ℕ → ℕ) (d n : ℕ) (xs : List ℕ) → put (without_nodes_at at d n xs) (at n) (zeros (d - 1)) ≡ without_nodes_at at d (n + 1) xs
unfolding without_nodes_at
without_next at d n xs =
    let z : 0 + length (replicate n (zeros (d - 1))) ≡ n = omega (arith, length-replicate n (zeros (d - 1))) in
    sym (ap (λ (i : ℕ). with_nodes at 0 (replicate i (zeros (d - 1))) xs) (add-one n)
    ∙ ap (λ (ns : List (List ℕ)). with_nodes at 0 ns xs) (repeated n (zeros (d - 1)))
    ∙ with_snoc at (replicate n (zeros (d - 1))) 0 (zeros (d - 1)) xs
    ∙ ap (λ (i : ℕ). put (with_nodes at 0 (replicate n (zeros (d - 1))) xs) (at i) (zeros (d - 1))) z)

-- ---- one stretch: nothing past the last node is written
pub framed_past : (d n : ℕ) (xs ys : List ℕ) → NodesFrame (node_word d) (d - 1) n xs ys → drop (n * (d - 1)) ys ≡ drop (n * (d - 1)) xs
framed_past d n xs ys f = same_words (drop (n * (d - 1)) ys) (drop (n * (d - 1)) xs) (rw (length-drop (n * (d - 1)) ys, length-drop (n * (d - 1)) xs, f.same_length))
    (λ i. get_or-drop (n * (d - 1)) ys i 0 ∙ f.same_outside (n * (d - 1) + i) (λ j l. inr (omega (arith, mul-le-mul_right (d - 1) l))) ∙ sym (get_or-drop (n * (d - 1)) xs i 0))
