-- The search over ranges of leaves: what a cut of a node's words says of the keys. No node numbers, and the
-- keys w to a leaf. Assumes nothing.
use Prim.Native.Nat.{ℕ, zero, suc, ◌+◌, ◌-◌, ◌*◌, ◌/◌, ◌≤◌, ◌<◌, min, suc-le-suc}
use mathlib.Core.Path.{◌≡◌, refl, sym, subst, ◌∙◌}
use mathlib.Core.Logic.{⊎_elim}
use mathlib.Core.List.{List}
use native.Mathlib.Omega.{arith}
use native.Mathlib.Nat.{le_trans, le_of_lt, lt_of_lt_of_le, add-zero, mul-le-mul_right, le-div_iff_mul-le, div-lt_iff_lt-mul, zero-mul}
use lib.ListN.{length, get_or, take, drop}
use lib.Seq.{get_or-take, get_or-drop}
use Rattle.codec.specs.Search as search
use Rattle.codec.proofs.PartLaws.{length_part}
use Rattle.model.specs.Tree.{Rising, keys_up_to}
use Rattle.descent.specs.Ranges.{Cut, Between}
use Rattle.tree.proofs.Orders.{le_or_lt}
use Rattle.descent.proofs.Counts.{count_is}

-- a cut of the part that is searched is one of the whole
pub cut_of_part : (xs : List ℕ) (at c t j : ℕ) → at + c ≤ length xs → let words = take c (drop at xs) in search.Cut (λ i. get_or words i 0) (length words) t j → Cut xs at c t j
cut_of_part xs at c t j fits cut =
    record {
      upto = omega (arith, long, cut.upto);
      before = λ l. rw (← word (j - 1) (omega (arith, long, cut.upto))) (cut.before l);
      after = λ l. rw (← word j l) (cut.after (omega (arith, long)));
    }
  where
    long : length (take c (drop at xs)) ≡ c
    long = length_part at c xs fits

    word : (i : ℕ) → i < c → get_or (take c (drop at xs)) i 0 ≡ get_or xs (at + i) 0
    word i l = get_or-take c (drop at xs) i 0 l ∙ get_or-drop at xs i 0

-- ---- one node: separators u leaves apart, of which j are at most t
module _ (keys xs : List ℕ) (w t a r u n j : ℕ) (one : 0 < w) (pos : 0 < u) (rising : Rising keys)
    (words : (i : ℕ) → i < (r - 1) / u → get_or xs (n + i) 0 ≡ get_or keys ((a + u + i * u) * w - 1) 0)
    (cut : Cut xs n ((r - 1) / u) t j) (bt : Between keys w t a r) where
  -- the child's first leaf is one of the leaves
  inside : j * u < r
  inside = omega (arith, (le-div_iff_mul-le {k = u} {x = j} {y = r - 1} pos).0 cut.upto, bt.some)

  -- a key before leaf m, m ≥ 1, is at most the separator of m
  upto : (m i : ℕ) → i < m * w → m * w < length keys → get_or keys (m * w - 1) 0 ≤ t → get_or keys i 0 ≤ t
  upto m i l k h = ⊎_elim
      (λ p. subst (λ (x : ℕ). get_or keys x 0 ≤ t) (omega arith) h)
      (λ q. le_trans (le_of_lt (rising i (m * w - 1) q (omega arith))) h)
      (le_or_lt (m * w - 1) i)

  over : (m i : ℕ) → 0 < m → m * w ≤ i → i < length keys → t < get_or keys (m * w - 1) 0 → t < get_or keys i 0
  over m i p l k h = lt_of_lt_of_le h (le_of_lt (rising (m * w - 1) i (omega (arith, mul-le-mul_right w p)) k))

  child-below : (i : ℕ) → i < (a + j * u) * w → get_or keys i 0 ≤ t
  child-below = by-j j refl
    where
      by-j : (x : ℕ) → x ≡ j → (i : ℕ) → i < (a + x * u) * w → get_or keys i 0 ≤ t
      by-j zero e i l = bt.below i (rw (zero-mul, add-zero) at l)
      by-j (suc x) e i l =
          let c1 : x < (r - 1) / u = omega (arith, cut.upto) in
          let m : a + u + x * u ≡ a + suc x * u = omega arith in
          let lt : suc x * u < r = subst (λ (y : ℕ). y * u < r) (sym e) inside in
          let last : j - 1 ≡ x = omega arith in
          let sep : get_or keys ((a + u + x * u) * w - 1) 0 ≤ t = rw (← words x c1) (rw last at (cut.before (omega arith))) in
          upto (a + suc x * u) i l (omega (arith, mul-le-mul_right w lt, bt.there)) (rw m at sep)

  child-there : (a + j * u + min u (r - j * u)) * w < length keys + w
  child-there =
      let le : a + j * u + min u (r - j * u) ≤ a + r = omega (arith, inside) in
      omega (arith, mul-le-mul_right w le, bt.there)

  child-above : (i : ℕ) → (a + j * u + min u (r - j * u)) * w ≤ i → i < length keys → t < get_or keys i 0
  child-above i l k = ⊎_elim last inner (le_or_lt ((r - 1) / u) j)
    where
      -- t is not below the last separator: the child ends where the node does
      last : (r - 1) / u ≤ j → t < get_or keys i 0
      last h =
          let q : r - 1 < suc j * u = (div-lt_iff_lt-mul {k = u} {x = r - 1} {y = suc j} pos).0 (suc-le-suc h) in
          let e : a + j * u + min u (r - j * u) ≡ a + r = omega (arith, inside) in
          bt.above i (subst (λ (x : ℕ). x * w ≤ i) e l) k

      inner : j < (r - 1) / u → t < get_or keys i 0
      inner h =
          let q : suc j * u ≤ r - 1 = (le-div_iff_mul-le {k = u} {x = suc j} {y = r - 1} pos).0 h in
          let e : a + j * u + min u (r - j * u) ≡ a + u + j * u = omega (arith, inside) in
          over (a + u + j * u) i (omega arith) (subst (λ (x : ℕ). x * w ≤ i) e l) k (subst (λ (x : ℕ). t < x) (words j h) (cut.after h))

  pub between_child : Between keys w t (a + j * u) (min u (r - j * u))
  between_child = record { some = omega (arith, inside); there = child-there; below = child-below; above = child-above }

-- ---- a leaf: the keys of leaf a, of which j are at most t
pub count_in_leaf : (keys xs : List ℕ) (w t a n j : ℕ) → 0 < w → Rising keys
    → ((i : ℕ) → i < w → a * w + i < length keys → get_or xs (n + i) 0 ≡ get_or keys (a * w + i) 0)
    → Cut xs n (min w (length keys - a * w)) t j → Between keys w t a 1 → keys_up_to keys t ≡ a * w + j
count_in_leaf keys xs w t a n j one rising words cut bt = count_is keys t (a * w + j) (omega (arith, cut.upto, bt.there)) low high
  where
    -- the last of the j keys, and any before it
    last : 0 < j → get_or keys (a * w + (j - 1)) 0 ≤ t
    last p = subst (λ (x : ℕ). x ≤ t) (words (j - 1) (omega (arith, cut.upto)) (omega (arith, cut.upto))) (cut.before p)

    low : (i : ℕ) → i < a * w + j → get_or keys i 0 ≤ t
    low i l = ⊎_elim mine (λ q. bt.below i q) (le_or_lt (a * w) i)
      where
        mine : a * w ≤ i → get_or keys i 0 ≤ t
        mine p = ⊎_elim
            (λ q. subst (λ (x : ℕ). get_or keys x 0 ≤ t) {x = a * w + (j - 1)} {y = i} (omega arith) (last (omega arith)))
            (λ q. le_trans (le_of_lt (rising i (a * w + (j - 1)) q (omega (arith, cut.upto)))) (last (omega arith)))
            (le_or_lt (a * w + (j - 1)) i)

    at_j : j < min w (length keys - a * w) → t < get_or keys (a * w + j) 0
    at_j h = subst (λ (x : ℕ). t < x) (words j (omega arith) (omega arith)) (cut.after h)

    high : (i : ℕ) → a * w + j ≤ i → i < length keys → t < get_or keys i 0
    high i l k = ⊎_elim (λ p. bt.above i (omega arith) k) mine (le_or_lt (a * w + w) i)
      where
        mine : i < a * w + w → t < get_or keys i 0
        mine m = ⊎_elim
            (λ p. subst (λ (x : ℕ). t < get_or keys x 0) {x = a * w + j} {y = i} (omega arith) (at_j (omega arith)))
            (λ q. lt_of_lt_of_le (at_j (omega arith)) (le_of_lt (rising (a * w + j) i q k)))
            (le_or_lt i (a * w + j))
