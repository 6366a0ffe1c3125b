-- One key more: the index of k keys becomes the index of k + 1 keys, node by node, over any address. Assumes nothing.
use Prim.Native.Nat.{ℕ, zero, suc, ◌+◌, ◌-◌, ◌*◌, ◌/◌, ◌%◌, ◌≤◌, ◌<◌}
use mathlib.Core.Path.{◌≡◌, refl, sym, ap, ◌∙◌}
use mathlib.Core.Logic.{inl, inr, ⊎_elim}
use mathlib.Core.List.{List, [], ◌∷◌, ◌++◌}
use mathlib.Core.Bool.{Bool, true, false, cond}
use native.Mathlib.Omega.{arith}
use native.Mathlib.Nat.{le_refl, mul-le-mul_right, div-add-mod', mod-lt}
use lib.ListN.{length, get_or, set, take, drop, length-append, length-set}
use lib.Dec.{eqb}
use borrow.Author.Tests.{eqb-true, eqb-false, ne_eqb}
use Rattle.codec.specs.Parts.{put}
use Rattle.codec.proofs.PartLaws.{length-put}
use Rattle.model.specs.Shape.{opens, host, padded, leaves_of, leaf_words, separator, inner_words}
use Rattle.model.specs.Numbering.{nodes, leaf_node, inner_node}
use Rattle.model.specs.Tree.{Packed}
use Rattle.tree.specs.Append.{slot, with_separator, with_leaf, append_of}
use Rattle.tree.specs.Places.{Placed}
use Rattle.tree.proofs.Orders.{le_or_lt}
use Rattle.tree.proofs.Numbers.{leaf_in}
use Rattle.tree.proofs.Hosts.{opens-none}
use Rattle.tree.proofs.Takers.{Hosted, hosted}
use Rattle.tree.proofs.Apart.{leaf_apart, inner_leaf, inner_apart, inner_in}
use Rattle.tree.proofs.Parts.{part_set_other, part_set_same, part-put-same, part-put_other, length-padded}
use Rattle.tree.proofs.Packings.{LeavesAt, ByLeaf, by_leaf, packed, leaves_at}
use Rattle.tree.proofs.Leaves.{leaves-full, leaves-part}
use Rattle.tree.proofs.Growths.{leaf_old, leaf_more, leaf_new, inner_old, inner_skip, inner_more, inner_new}

-- ---- a write to one node leaves the others
module _ (at : ℕ → ℕ) (w n : ℕ) (xs : List ℕ) (pl : Placed at w n (length xs)) (a p : ℕ) (la : a < n) (lp : p < n) (ne : a ≡ p → ⊥) where
  set_else : (j v : ℕ) → j < w → take w (drop (at a) (set xs (at p + j) v)) ≡ take w (drop (at a) xs)
  set_else j v l = part_set_other w xs (at a) (at p + j) v (⊎_elim (λ q. inl (omega arith)) (λ q. inr (omega arith)) (pl.apart a p la lp ne))

  put-else : (vs : List ℕ) → length vs ≡ w → take w (drop (at a) (put xs (at p) vs)) ≡ take w (drop (at a) xs)
  put-else vs e = part-put_other w xs (at a) (at p) vs e (omega (arith, pl.room p lp)) (pl.apart a p la lp ne)

module _ (at : ℕ → ℕ) (d : ℕ) (two : 2 ≤ d) (keys : List ℕ) (x : ℕ) (xs : List ℕ) (q : ℕ) where
  -- ---- the last leaf has room
  append-in : (f : ℕ) → q * (d - 1) + suc f ≡ length keys → suc f < d - 1 → Placed at (d - 1) (nodes d (suc q)) (length xs) → ByLeaf at d (suc q) keys xs
      → ByLeaf at d (suc q) (keys ++ (x ∷ [])) (set xs (at (leaf_node d q) + suc f) x)
  append-in f e l pl h = record { leaf = leaf; inner = inner }
    where
      last : leaf_node d q < nodes d (suc q)
      last = leaf_in d two q (suc q) (le_refl (suc q))

      leaf : (m : ℕ) → m < suc q → take (d - 1) (drop (at (leaf_node d m)) (set xs (at (leaf_node d q) + suc f) x)) ≡ leaf_words d (keys ++ (x ∷ [])) m
      leaf m k = ⊎_elim here before (le_or_lt q m)
        where
          here : q ≤ m → take (d - 1) (drop (at (leaf_node d m)) (set xs (at (leaf_node d q) + suc f) x)) ≡ leaf_words d (keys ++ (x ∷ [])) m
          here p =
              let z : m ≡ q = omega arith in
              rw z (part_set_same (d - 1) xs (at (leaf_node d q)) (suc f) x l ∙ ap (λ (ys : List ℕ). set ys (suc f) x) (h.leaf q (le_refl (suc q))) ∙ sym (leaf_more d two keys x q (suc f) e l))

          before : m < q → take (d - 1) (drop (at (leaf_node d m)) (set xs (at (leaf_node d q) + suc f) x)) ≡ leaf_words d (keys ++ (x ∷ [])) m
          before p =
              set_else at (d - 1) (nodes d (suc q)) xs pl (leaf_node d m) (leaf_node d q) (leaf_in d two m (suc q) k) last (leaf_apart d two m q (λ z. omega arith)) (suc f) x l
              ∙ h.leaf m k ∙ sym (leaf_old d two keys x m (omega (arith, mul-le-mul_right (d - 1) p)))

      inner : (m : ℕ) → m < suc q → opens d m ≡ true → take (d - 1) (drop (at (inner_node d m)) (set xs (at (leaf_node d q) + suc f) x)) ≡ inner_words d (keys ++ (x ∷ [])) (suc q) m
      inner m k o =
          set_else at (d - 1) (nodes d (suc q)) xs pl (inner_node d m) (leaf_node d q) (inner_in d two m (suc q) k) last (inner_leaf d two m q o) (suc f) x l
          ∙ h.inner m k o ∙ sym (inner_old d two keys x m (suc q) (λ y r. omega (arith, mul-le-mul_right (d - 1) r)))

  -- ---- a leaf is needed
  module _ (full : q * (d - 1) ≡ length keys) (pl : Placed at (d - 1) (nodes d (suc q)) (length xs)) (h : ByLeaf at d q keys xs) where
    -- the separator is placed
    record Stepped (ys : List ℕ) : Type 0 where
      pub long : length ys ≡ length xs
      pub leaves : (m : ℕ) → m < q → take (d - 1) (drop (at (leaf_node d m)) ys) ≡ leaf_words d keys m
      pub inners : (m : ℕ) → m < suc q → opens d m ≡ true → take (d - 1) (drop (at (inner_node d m)) ys) ≡ inner_words d (keys ++ (x ∷ [])) (suc q) m

    none : q ≡ 0 → Stepped xs
    none z = record { long = refl; leaves = λ m l. absurd (omega arith); inners = λ m l o. absurd (no m (omega arith) o) }
      where
        no : (m : ℕ) → m ≡ 0 → opens d m ≡ true → ⊥
        no m e o = let z : ◌≡◌ {A = ℕ} 0 1 = cc (opens-none d two) in omega arith

    own : 0 < q → opens d q ≡ true → Stepped (put xs (at (inner_node d q)) (padded (d - 1) (separator d keys q ∷ [])))
    own p o = record { long = length-put xs (at (inner_node d q)) vs (rw len (pl.room (inner_node d q) here)); leaves = leaves; inners = inners }
      where
        vs : List ℕ
        vs = padded (d - 1) (separator d keys q ∷ [])

        len : length (padded (d - 1) (separator d keys q ∷ [])) ≡ d - 1
        len = length-padded (d - 1) (separator d keys q ∷ []) (omega arith)

        here : inner_node d q < nodes d (suc q)
        here = inner_in d two q (suc q) (le_refl (suc q))

        leaves : (m : ℕ) → m < q → take (d - 1) (drop (at (leaf_node d m)) (put xs (at (inner_node d q)) vs)) ≡ leaf_words d keys m
        leaves m l = put-else at (d - 1) (nodes d (suc q)) xs pl (leaf_node d m) (inner_node d q) (leaf_in d two m (suc q) (omega arith)) here (λ e. inner_leaf d two q m o (sym e)) vs len ∙ h.leaf m l

        inners : (m : ℕ) → m < suc q → opens d m ≡ true → take (d - 1) (drop (at (inner_node d m)) (put xs (at (inner_node d q)) vs)) ≡ inner_words d (keys ++ (x ∷ [])) (suc q) m
        inners m l k = ⊎_elim same less (le_or_lt q m)
          where
            same : q ≤ m → take (d - 1) (drop (at (inner_node d m)) (put xs (at (inner_node d q)) vs)) ≡ inner_words d (keys ++ (x ∷ [])) (suc q) m
            same r =
                let z : m ≡ q = omega arith in
                rw z (part-put-same (d - 1) xs (at (inner_node d q)) vs len (omega (arith, pl.room (inner_node d q) here)) ∙ sym (inner_new d two keys x q full p o))

            less : m < q → take (d - 1) (drop (at (inner_node d m)) (put xs (at (inner_node d q)) vs)) ≡ inner_words d (keys ++ (x ∷ [])) (suc q) m
            less r =
                put-else at (d - 1) (nodes d (suc q)) xs pl (inner_node d m) (inner_node d q) (inner_in d two m (suc q) l) here (inner_apart d two m q k o (λ z. omega arith)) vs len
                ∙ h.inner m r k ∙ sym (inner_skip d two keys x q full m (λ z. omega (arith, (hosted d two q p).itself o)))

    another : 0 < q → opens d q ≡ false → Stepped (set xs (at (inner_node d (host d q)) + slot d q) (separator d keys q))
    another p o = record { long = length-set xs _ _; leaves = leaves; inners = inners }
      where
        hd : Hosted d two q
        hd = hosted d two q p

        ys : List ℕ
        ys = set xs (at (inner_node d (host d q)) + slot d q) (separator d keys q)

        below : host d q < q
        below = hd.other o

        here : inner_node d (host d q) < nodes d (suc q)
        here = inner_in d two (host d q) (suc q) (omega (arith, below))

        leaves : (m : ℕ) → m < q → take (d - 1) (drop (at (leaf_node d m)) ys) ≡ leaf_words d keys m
        leaves m l =
            set_else at (d - 1) (nodes d (suc q)) xs pl (leaf_node d m) (inner_node d (host d q)) (leaf_in d two m (suc q) (omega arith)) here (λ e. inner_leaf d two (host d q) m hd.opened_by (sym e))
            (slot d q) (separator d keys q) hd.fits
            ∙ h.leaf m l

        inners : (m : ℕ) → m < suc q → opens d m ≡ true → take (d - 1) (drop (at (inner_node d m)) ys) ≡ inner_words d (keys ++ (x ∷ [])) (suc q) m
        inners m l k = by (eqb (host d q) m) refl
          where
            less : m < q
            less = ⊎_elim (λ r. absurd (no m (omega arith) k)) (λ r. r) (le_or_lt q m)
              where
                no : (m : ℕ) → m ≡ q → opens d m ≡ true → ⊥
                no m e k = let z : ◌≡◌ {A = ℕ} 0 1 = cc in omega arith

            by : (c : Bool) → eqb (host d q) m ≡ c → take (d - 1) (drop (at (inner_node d m)) ys) ≡ inner_words d (keys ++ (x ∷ [])) (suc q) m
            by true e =
                rw (← eqb-true (host d q) m e)
                (part_set_same (d - 1) xs (at (inner_node d (host d q))) (slot d q) (separator d keys q) hd.fits
                ∙ ap (λ (zs : List ℕ). set zs (slot d q) (separator d keys q)) (h.inner (host d q) below hd.opened_by) ∙ sym (inner_more d two keys x q full p))
            by false e =
                set_else at (d - 1) (nodes d (suc q)) xs pl (inner_node d m) (inner_node d (host d q)) (inner_in d two m (suc q) l) here
                (inner_apart d two m (host d q) k hd.opened_by (λ z. eqb-false (host d q) m e (sym z))) (slot d q) (separator d keys q) hd.fits
                ∙ h.inner m less k ∙ sym (inner_skip d two keys x q full m (eqb-false (host d q) m e))

    stepped : (s : ℕ) → (0 < q → s ≡ separator d keys q) → Stepped (with_separator at d q s xs)
    unfolding with_separator
    stepped s e = by (eqb q 0) refl (opens d q) refl
      where
        some : eqb q 0 ≡ false → 0 < q
        some z = ⊎_elim (λ p. p) (λ r. absurd (eqb-false q 0 z (omega arith))) (le_or_lt 1 q)

        by : (b : Bool) → eqb q 0 ≡ b → (c : Bool) → opens d q ≡ c
            → Stepped (cond b xs (cond c (put xs (at (inner_node d q)) (padded (d - 1) (s ∷ []))) (set xs (at (inner_node d (host d q)) + slot d q) s)))
        by true z c o = none (eqb-true q 0 z)
        by false z true o = rw (e (some z)) (own (some z) o)
        by false z false o = rw (e (some z)) (another (some z) o)

    -- and then the leaf
    append-new : (s : ℕ) → (0 < q → s ≡ separator d keys q) → ByLeaf at d (suc q) (keys ++ (x ∷ [])) (put (with_separator at d q s xs) (at (leaf_node d q)) (padded (d - 1) (x ∷ [])))
    append-new s e = record { leaf = leaf; inner = inner }
      where
        ys : List ℕ
        ys = with_separator at d q s xs

        st : Stepped (with_separator at d q s xs)
        st = stepped s e

        pl' : Placed at (d - 1) (nodes d (suc q)) (length (with_separator at d q s xs))
        pl' = rw st.long pl

        vs : List ℕ
        vs = padded (d - 1) (x ∷ [])

        len : length (padded (d - 1) (x ∷ [])) ≡ d - 1
        len = length-padded (d - 1) (x ∷ []) (omega arith)

        here : leaf_node d q < nodes d (suc q)
        here = leaf_in d two q (suc q) (le_refl (suc q))

        leaf : (m : ℕ) → m < suc q → take (d - 1) (drop (at (leaf_node d m)) (put ys (at (leaf_node d q)) vs)) ≡ leaf_words d (keys ++ (x ∷ [])) m
        leaf m l = ⊎_elim same less (le_or_lt q m)
          where
            same : q ≤ m → take (d - 1) (drop (at (leaf_node d m)) (put ys (at (leaf_node d q)) vs)) ≡ leaf_words d (keys ++ (x ∷ [])) m
            same r =
                let z : m ≡ q = omega arith in
                rw z (part-put-same (d - 1) ys (at (leaf_node d q)) vs len (omega (arith, pl'.room (leaf_node d q) here)) ∙ sym (leaf_new d two keys x q full))

            less : m < q → take (d - 1) (drop (at (leaf_node d m)) (put ys (at (leaf_node d q)) vs)) ≡ leaf_words d (keys ++ (x ∷ [])) m
            less r =
                put-else at (d - 1) (nodes d (suc q)) ys pl' (leaf_node d m) (leaf_node d q) (leaf_in d two m (suc q) l) here (leaf_apart d two m q (λ z. omega arith)) vs len
                ∙ st.leaves m r ∙ sym (leaf_old d two keys x m (omega (arith, mul-le-mul_right (d - 1) r)))

        inner : (m : ℕ) → m < suc q → opens d m ≡ true → take (d - 1) (drop (at (inner_node d m)) (put ys (at (leaf_node d q)) vs)) ≡ inner_words d (keys ++ (x ∷ [])) (suc q) m
        inner m l o =
            put-else at (d - 1) (nodes d (suc q)) ys pl' (inner_node d m) (leaf_node d q) (inner_in d two m (suc q) l) here (inner_leaf d two m q o) vs len ∙ st.inners m l o

-- ---- the whole
module _ (at : ℕ → ℕ) (d : ℕ) (two : 2 ≤ d) (x : ℕ) (keys xs : List ℕ) where
  -- the last key of leaf q - 1 is where the leaf says
  last-key : (q : ℕ) → q * (d - 1) ≡ length keys → LeavesAt (λ m. at (leaf_node d m)) xs keys d → 0 < q → get_or xs (at (leaf_node d (q - 1)) + (d - 2)) 0 ≡ separator d keys q
  last-key zero e h p = absurd (omega arith)
  last-key (suc q) e h p =
      let z : suc q - 1 ≡ q = omega arith in
      let i : suc q * (d - 1) - 1 ≡ q * (d - 1) + (d - 2) = omega arith in
      rw (z, i) (h q (d - 2) (omega arith) (omega arith))

  after : (n : ℕ) (ys : List ℕ) → leaves_of d (length keys + 1) ≡ n → ByLeaf at d n (keys ++ (x ∷ [])) ys → Packed at d (keys ++ (x ∷ [])) ys
  after n ys e h = packed at d two (keys ++ (x ∷ [])) ys (rw (length-append keys (x ∷ []), e) h)

  append-by : (q f : ℕ) → q * (d - 1) + f ≡ length keys → f < d - 1 → Placed at (d - 1) (nodes d (leaves_of d (length keys + 1))) (length xs) → Packed at d keys xs
      → Packed at d (keys ++ (x ∷ []))
      (cond (eqb f 0) (with_leaf at d q x xs) (set xs (at (leaf_node d q) + f) x))
  unfolding with_leaf
  append-by q zero e l pl h =
      let full : q * (d - 1) ≡ length keys = omega arith in
      let n0 : leaves_of d (length keys) ≡ q = ap (leaves_of d) (sym full) ∙ leaves-full d two q in
      let n1 : leaves_of d (length keys + 1) ≡ suc q = ap (λ (n : ℕ). leaves_of d (n + 1)) (sym full) ∙ leaves-part d two q 0 (omega arith) in
      let b = by_leaf at d two keys xs h in
      after (suc q) _ n1 (append-new at d two keys x xs q full (rw n1 at pl) (rw n0 at b) _ (last-key q full (leaves_at at d two keys xs b)))
  append-by q (suc f) e l pl h =
      let n0 : leaves_of d (length keys) ≡ suc q = ap (leaves_of d) (sym e) ∙ leaves-part d two q f (omega arith) in
      let s : length keys + 1 ≡ q * (d - 1) + suc (suc f) = omega arith in
      let n1 : leaves_of d (length keys + 1) ≡ suc q = ap (leaves_of d) s ∙ leaves-part d two q (suc f) l in
      rw (ne_eqb (suc f) 0 (λ z. omega arith)) (after (suc q) _ n1 (append-in at d two keys x xs q f e l (rw n1 at pl) (rw n0 at (by_leaf at d two keys xs h))))

  pub append_packed : Placed at (d - 1) (nodes d (leaves_of d (length keys + 1))) (length xs) → Packed at d keys xs → Packed at d (keys ++ (x ∷ [])) (append_of at d (length keys) x xs)
  unfolding append_of
  append_packed pl h = append-by (length keys / (d - 1)) (length keys % (d - 1)) (div-add-mod' (length keys) (d - 1)) (mod-lt (length keys) (omega arith)) pl h
