-- Nodes gathered into one stretch: each stands there as at its place, and what is written at the nodes' places is written in
-- the stretch. Assumes nothing.
use Prim.Native.Nat.{ℕ, zero, suc, ◌+◌, ◌-◌, ◌*◌, ◌/◌, ◌%◌, ◌≤◌, ◌<◌}
use mathlib.Core.Path.{◌≡◌, refl, sym, ap, ap₂, ◌∙◌}
use mathlib.Core.Logic.{◌⊎◌, inl, inr, ⊎_elim}
use mathlib.Core.List.{List, [], ◌∷◌, ◌++◌}
use mathlib.Core.Bool.{Bool, true, false, cond}
use native.Mathlib.Omega.{arith}
use native.Mathlib.Nat.{le_refl, le_trans, mul-le-mul_right, mod-lt, div-lt_iff_lt-mul, div-add-mod'}
use lib.ListN.{length, get_or, set, take, drop, replicate, length-append, length-set, length-drop, length-replicate, get_or-eq_default}
use lib.Seq.{get_or-take, get_or-drop, take-append-le, drop-append-le, drop_at, take_all}
use lib.Dec.{eqb}
use borrow.Author.Tests.{eqb-true, eqb-false}
use Rattle.codec.specs.Parts.{put, part, zeros}
use Rattle.codec.proofs.PartLaws.{length_part, length-put}
use Rattle.model.specs.Shape.{opens, host, padded, leaves_of}
use Rattle.model.specs.Numbering.{nodes, leaf_node, inner_node, node_word}
use Rattle.model.specs.Tree.{nodes_of, with_nodes, without_nodes, Outside}
use Rattle.tree.specs.Append.{slot, with_separator, with_leaf, append_of}
use Rattle.tree.specs.Places.{Placed, without_nodes_at, gathered}
use Rattle.tree.proofs.Orders.{le_or_lt}
use Rattle.tree.proofs.Leaves.{leaves_next}
use Rattle.tree.proofs.Numbers.{leaf_in}
use Rattle.tree.proofs.Apart.{inner_in}
use Rattle.tree.proofs.Hosts.{host_le}
use Rattle.tree.proofs.Takers.{hosted}
use Rattle.tree.proofs.Parts.{part_set_other, part_set_same, part-put-same, part-put_other, length-padded}
use Rattle.tree.proofs.Packings.{Words}
use Rattle.tree.proofs.Rooms.{placed}
use Rattle.tree.proofs.WrittenAt.{same_by_nodes, zero_words}
use Rattle.tree.proofs.FillingsAt.{placed_fewer, separator_framed}

module _ (at : ℕ → ℕ) (w : ℕ) where
  pub gathered-length : (k : ℕ) (xs : List ℕ) → ((i : ℕ) → i < k → at i + w ≤ length xs) → length (gathered at w k xs) ≡ k * w
  unfolding gathered
  gathered-length zero xs h = sym (omega arith)
  gathered-length (suc k) xs h =
      length-append (gathered at w k xs) (part (at k) w xs)
      ∙ ap₂ (λ (x y : ℕ). x + y) (gathered-length k xs (λ i l. h i (omega arith))) (length_part (at k) w xs (h k (le_refl (suc k)))) ∙ omega arith

  -- node i of the stretch is node i at its place
  pub gathered_node : (k : ℕ) (xs : List ℕ) → ((i : ℕ) → i < k → at i + w ≤ length xs) → (i : ℕ) → i < k → part (i * w) w (gathered at w k xs) ≡ part (at i) w xs
  unfolding gathered
  gathered_node zero xs h i l = absurd (omega arith)
  gathered_node (suc k) xs h i l = ⊎_elim (λ p. last (omega arith)) (λ p. front p (gathered_node k xs (λ j q. h j (omega arith)) i p)) (le_or_lt k i)
    where
      long : length (gathered at w k xs) ≡ k * w
      long = gathered-length k xs (λ j q. h j (omega arith))

      front : i < k → part (i * w) w (gathered at w k xs) ≡ part (at i) w xs → part (i * w) w (gathered at w k xs ++ part (at k) w xs) ≡ part (at i) w xs
      front p ih =
          let le : suc i ≤ k = p in
          let fit : i * w + w ≤ k * w = omega (arith, mul-le-mul_right w le) in
          ap (take w) (drop-append-le (i * w) (gathered at w k xs) (part (at k) w xs) (omega (arith, long)))
          ∙ take-append-le w (drop (i * w) (gathered at w k xs)) (part (at k) w xs) (rest fit)
          ∙ ih
        where
          rest : i * w + w ≤ k * w → w ≤ length (drop (i * w) (gathered at w k xs))
          rest fit = omega (arith, long, length-drop (i * w) (gathered at w k xs))

      last : i ≡ k → part (i * w) w (gathered at w k xs ++ part (at k) w xs) ≡ part (at i) w xs
      last e =
          let wide = length_part (at k) w xs (h k (le_refl (suc k))) in
          rw e (ap (take w) (drop_at (gathered at w k xs) (part (at k) w xs) (k * w) long) ∙ take_all w (part (at k) w xs) (omega (arith, wide)))

-- ---- what is written to a node is written to it in the stretch

module _ (at : ℕ → ℕ) (d k : ℕ) (two : 2 ≤ d) (xs : List ℕ) (pl : Placed at (d - 1) k (length xs)) where
  long : length (gathered at (d - 1) k xs) ≡ k * (d - 1)
  long = gathered-length at (d - 1) k xs pl.room

  node-ends : (j : ℕ) → j < k → j * (d - 1) + (d - 1) ≤ k * (d - 1)
  node-ends j l = let le : suc j ≤ k = l in omega (arith, mul-le-mul_right (d - 1) le)

  -- two stretches of k nodes are one if their nodes are
  same-stretch : (ys zs : List ℕ) → length ys ≡ k * (d - 1) → length zs ≡ k * (d - 1) → ((i : ℕ) → i < k → part (node_word d i) (d - 1) ys ≡ part (node_word d i) (d - 1) zs) → ys ≡ zs
  same-stretch ys zs e f h = same_by_nodes (node_word d) (d - 1) k ys zs h (record { same_length = f ∙ sym e; same_outside = λ i o. past i o })
    where
      beyond : (i : ℕ) → Outside (node_word d) (d - 1) k i → k * (d - 1) ≤ i
      beyond i o = ⊎_elim (λ p. p) (λ p. absurd (inside p)) (le_or_lt (k * (d - 1)) i)
        where
          inside : i < k * (d - 1) → ⊥
          inside p =
              let q : i / (d - 1) < k = (div-lt_iff_lt-mul {k = d - 1} {x = i} {y = k} (omega arith)).1 (omega arith) in
              ⊎_elim (λ z. omega (arith, div-add-mod' i (d - 1))) (λ z. omega (arith, div-add-mod' i (d - 1), mod-lt i {m = d - 1} (omega arith))) (o (i / (d - 1)) q)

      past : (i : ℕ) → Outside (node_word d) (d - 1) k i → get_or zs i 0 ≡ get_or ys i 0
      past i o = get_or-eq_default zs 0 (omega (arith, beyond i o)) ∙ sym (get_or-eq_default ys 0 (omega (arith, beyond i o)))

  pub gathered-put : (j : ℕ) (node : List ℕ) → j < k → length node ≡ d - 1 → gathered at (d - 1) k (put xs (at j) node) ≡ put (gathered at (d - 1) k xs) (node_word d j) node
  gathered-put j node l wide =
      let len : length (put xs (at j) node) ≡ length xs = length-put xs (at j) node (omega (arith, pl.room j l)) in
      same-stretch _ _ (gathered-length at (d - 1) k (put xs (at j) node) (λ i q. rw len (pl.room i q)))
      (length-put (gathered at (d - 1) k xs) (node_word d j) node (omega (arith, long, node-ends j l)) ∙ long)
      (λ i q. gathered_node at (d - 1) k (put xs (at j) node) (λ i q. rw len (pl.room i q)) i q ∙ by i q)
    where
      other : (i : ℕ) → i < k → (i ≡ j → ⊥) → part (at i) (d - 1) (put xs (at j) node) ≡ part (node_word d i) (d - 1) (put (gathered at (d - 1) k xs) (node_word d j) node)
      other i q ne =
          part-put_other (d - 1) xs (at i) (at j) node wide (omega (arith, pl.room j l)) (pl.apart i j q l ne)
          ∙ sym (gathered_node at (d - 1) k xs pl.room i q)
          ∙ sym (part-put_other (d - 1) (gathered at (d - 1) k xs) (node_word d i) (node_word d j) node wide (omega (arith, long, node-ends j l)) ((placed d k (k * (d - 1)) (le_refl (k * (d - 1)))).apart i j q l ne))

      same : part (at j) (d - 1) (put xs (at j) node) ≡ part (node_word d j) (d - 1) (put (gathered at (d - 1) k xs) (node_word d j) node)
      same = part-put-same (d - 1) xs (at j) node wide (omega (arith, pl.room j l)) ∙ sym (part-put-same (d - 1) (gathered at (d - 1) k xs) (node_word d j) node wide (omega (arith, long, node-ends j l)))

      by : (i : ℕ) → i < k → part (at i) (d - 1) (put xs (at j) node) ≡ part (node_word d i) (d - 1) (put (gathered at (d - 1) k xs) (node_word d j) node)
      by i q = cases (eqb i j) refl
        where
          cases : (b : Bool) → eqb i j ≡ b → part (at i) (d - 1) (put xs (at j) node) ≡ part (node_word d i) (d - 1) (put (gathered at (d - 1) k xs) (node_word d j) node)
          cases true e = rw (eqb-true i j e) same
          cases false e = other i q (eqb-false i j e)

  pub gathered_set : (j n v : ℕ) → j < k → n < d - 1 → gathered at (d - 1) k (set xs (at j + n) v) ≡ set (gathered at (d - 1) k xs) (node_word d j + n) v
  gathered_set j n v l fits =
      let len : length (set xs (at j + n) v) ≡ length xs = length-set xs (at j + n) v in
      same-stretch _ _ (gathered-length at (d - 1) k (set xs (at j + n) v) (λ i q. rw len (pl.room i q)))
      (length-set (gathered at (d - 1) k xs) (node_word d j + n) v ∙ long)
      (λ i q. gathered_node at (d - 1) k (set xs (at j + n) v) (λ i q. rw len (pl.room i q)) i q ∙ by i q)
    where
      off : (a b : ℕ) → (a + (d - 1) ≤ b) ⊎ (b + (d - 1) ≤ a) → (a + (d - 1) ≤ b + n) ⊎ (b + n < a)
      off a b (inl h) = inl (omega arith)
      off a b (inr h) = inr (omega arith)

      other : (i : ℕ) → i < k → (i ≡ j → ⊥) → part (at i) (d - 1) (set xs (at j + n) v) ≡ part (node_word d i) (d - 1) (set (gathered at (d - 1) k xs) (node_word d j + n) v)
      other i q ne =
          part_set_other (d - 1) xs (at i) (at j + n) v (off (at i) (at j) (pl.apart i j q l ne))
          ∙ sym (gathered_node at (d - 1) k xs pl.room i q)
          ∙ sym (part_set_other (d - 1) (gathered at (d - 1) k xs) (node_word d i) (node_word d j + n) v (off (node_word d i) (node_word d j) ((placed d k (k * (d - 1)) (le_refl (k * (d - 1)))).apart i j q l ne)))

      same : part (at j) (d - 1) (set xs (at j + n) v) ≡ part (node_word d j) (d - 1) (set (gathered at (d - 1) k xs) (node_word d j + n) v)
      same =
          part_set_same (d - 1) xs (at j) n v fits ∙ ap (λ (ys : List ℕ). set ys n v) (sym (gathered_node at (d - 1) k xs pl.room j l))
          ∙ sym (part_set_same (d - 1) (gathered at (d - 1) k xs) (node_word d j) n v fits)

      by : (i : ℕ) → i < k → part (at i) (d - 1) (set xs (at j + n) v) ≡ part (node_word d i) (d - 1) (set (gathered at (d - 1) k xs) (node_word d j + n) v)
      by i q = cases (eqb i j) refl
        where
          cases : (b : Bool) → eqb i j ≡ b → part (at i) (d - 1) (set xs (at j + n) v) ≡ part (node_word d i) (d - 1) (set (gathered at (d - 1) k xs) (node_word d j + n) v)
          cases true e = rw (eqb-true i j e) same
          cases false e = other i q (eqb-false i j e)

  pub gathered_word : (j n : ℕ) → j < k → n < d - 1 → get_or (gathered at (d - 1) k xs) (node_word d j + n) 0 ≡ get_or xs (at j + n) 0
  gathered_word j n l fits =
      sym (word (node_word d j) (gathered at (d - 1) k xs)) ∙ ap (λ (ys : List ℕ). get_or ys n 0) (gathered_node at (d - 1) k xs pl.room j l) ∙ word (at j) xs
    where
      word : (a : ℕ) (zs : List ℕ) → get_or (take (d - 1) (drop a zs)) n 0 ≡ get_or zs (a + n) 0
      word a zs = get_or-take (d - 1) (drop a zs) n 0 fits ∙ get_or-drop a zs n 0

-- nodes written one after the other
pub nodes-gathered : (at : ℕ → ℕ) (d k : ℕ) → 2 ≤ d → (ns : List (List ℕ)) (j : ℕ) (xs : List ℕ) → Placed at (d - 1) k (length xs) → Words (d - 1) ns → j + length ns ≤ k
    → gathered at (d - 1) k (with_nodes at j ns xs) ≡ with_nodes (node_word d) j ns (gathered at (d - 1) k xs)
unfolding with_nodes
nodes-gathered at d k two [] j xs pl wide fits = refl
nodes-gathered at d k two (node ∷ ns) j xs pl wide fits =
    let n : length node ≡ d - 1 = wide 0 (omega arith) in
    let len : length (put xs (at j) node) ≡ length xs = length-put xs (at j) node (omega (arith, pl.room j (omega arith))) in
    nodes-gathered at d k two ns (suc j) (put xs (at j) node) (rw len pl) (λ i l. wide (suc i) (omega arith)) (omega arith)
    ∙ ap (with_nodes (node_word d) (suc j) ns) (gathered-put at d k two xs pl j node (omega arith) n)

pub without-gathered : (at : ℕ → ℕ) (d k : ℕ) → 2 ≤ d → (n : ℕ) (xs : List ℕ) → Placed at (d - 1) k (length xs) → n ≤ k
    → gathered at (d - 1) k (without_nodes_at at d n xs) ≡ without_nodes d n (gathered at (d - 1) k xs)
unfolding without_nodes_at without_nodes
without-gathered at d k two n xs pl few =
    nodes-gathered at d k two (replicate n (zeros (d - 1))) 0 xs pl (zero_words d n) (omega (arith, length-replicate n (zeros (d - 1))))

-- ---- one key more

module _ (at : ℕ → ℕ) (d k : ℕ) (two : 2 ≤ d) where
  -- leaf m and all before it are among the nodes
  module _ (m : ℕ) (all : nodes d (m + 1) ≤ k) where
    leaf_there : (j : ℕ) → j ≤ m → leaf_node d j < k
    leaf_there j l = le_trans (leaf_in d two j (m + 1) (omega arith)) all

    inner-there : (j : ℕ) → j ≤ m → inner_node d j < k
    inner-there j l = le_trans (inner_in d two j (m + 1) (omega arith)) all

    wide : (v : ℕ) → length (padded (d - 1) (v ∷ [])) ≡ d - 1
    wide v = length-padded (d - 1) (v ∷ []) (omega arith)

    separator-gathered : (s : ℕ) (xs : List ℕ) → Placed at (d - 1) k (length xs)
        → gathered at (d - 1) k (with_separator at d m s xs) ≡ with_separator (node_word d) d m s (gathered at (d - 1) k xs)
    unfolding with_separator
    separator-gathered s xs pl = by (eqb m 0) refl (opens d m)
      where
        by : (b : Bool) → eqb m 0 ≡ b → (c : Bool)
            → gathered at (d - 1) k (cond b xs (cond c (put xs (at (inner_node d m)) (padded (d - 1) (s ∷ []))) (set xs (at (inner_node d (host d m)) + slot d m) s)))
            ≡ cond b (gathered at (d - 1) k xs) (cond c (put (gathered at (d - 1) k xs) (node_word d (inner_node d m)) (padded (d - 1) (s ∷ []))) (set (gathered at (d - 1) k xs) (node_word d (inner_node d (host d m)) + slot d m) s))
        by true z c = refl
        by false z true = gathered-put at d k two xs pl (inner_node d m) (padded (d - 1) (s ∷ [])) (inner-there m (le_refl m)) (wide s)
        by false z false =
            let p : 0 < m = ⊎_elim (λ p. p) (λ r. absurd (eqb-false m 0 z (omega arith))) (le_or_lt 1 m) in
            gathered_set at d k two xs pl (inner_node d (host d m)) (slot d m) s (inner-there (host d m) (host_le d two m)) (hosted d two m p).fits

    leaf-gathered : (x : ℕ) (xs : List ℕ) → Placed at (d - 1) k (length xs) → length (with_separator at d m (get_or xs (at (leaf_node d (m - 1)) + (d - 2)) 0) xs) ≡ length xs
        → gathered at (d - 1) k (with_leaf at d m x xs) ≡ with_leaf (node_word d) d m x (gathered at (d - 1) k xs)
    unfolding with_leaf
    leaf-gathered x xs pl len =
        let s = get_or xs (at (leaf_node d (m - 1)) + (d - 2)) 0 in
        let ys = with_separator at d m s xs in
        let read : get_or (gathered at (d - 1) k xs) (node_word d (leaf_node d (m - 1)) + (d - 2)) 0 ≡ s = gathered_word at d k two xs pl (leaf_node d (m - 1)) (d - 2) (leaf_there (m - 1) (omega arith)) (omega arith) in
        gathered-put at d k two ys (rw len pl) (leaf_node d m) (padded (d - 1) (x ∷ [])) (leaf_there m (le_refl m)) (wide x)
        ∙ rw (read, separator-gathered s xs pl)

  pub append-gathered : (n x : ℕ) (xs : List ℕ) → nodes_of d (n + 1) ≤ k → Placed at (d - 1) k (length xs)
      → gathered at (d - 1) k (append_of at d n x xs) ≡ append_of (node_word d) d n x (gathered at (d - 1) k xs)
  unfolding append_of
  append-gathered n x xs all pl =
      let m = n / (d - 1) in
      let next : leaves_of d (n + 1) ≡ n / (d - 1) + 1 = leaves_next d n two in
      by (rw next at all) (eqb (n % (d - 1)) 0)
    where
      by : nodes d (n / (d - 1) + 1) ≤ k → (b : Bool)
          → gathered at (d - 1) k (cond b (with_leaf at d (n / (d - 1)) x xs) (set xs (at (leaf_node d (n / (d - 1))) + n % (d - 1)) x))
          ≡ cond b (with_leaf (node_word d) d (n / (d - 1)) x (gathered at (d - 1) k xs)) (set (gathered at (d - 1) k xs) (node_word d (leaf_node d (n / (d - 1))) + n % (d - 1)) x)
      by l true = leaf-gathered (n / (d - 1)) l x xs pl (separator_framed at d two (n / (d - 1)) _ xs (placed_fewer l pl)).same_length
      by l false = gathered_set at d k two xs pl (leaf_node d (n / (d - 1))) (n % (d - 1)) x (leaf_there (n / (d - 1)) l (n / (d - 1)) (le_refl (n / (d - 1)))) (mod-lt n {m = d - 1} (omega arith))
