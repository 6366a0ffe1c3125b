-- The choice of outset is a nearest one (01, "Count files"): what the two candidates are among the held tables, and that the
-- least lies between t and the one chosen, for any measure that never falls. Assumes nothing.
use Prim.Native.Nat.{ℕ, suc, ◌≤◌, ◌<◌, zero-le}
use mathlib.Core.Path.{◌≡◌, refl, ap}
use mathlib.Core.List.Memᴰ
use mathlib.Core.List.{List, [], ◌∷◌, ◌++◌, Memᴰ}
use mathlib.Core.Logic.{◌⊎◌, inl, inr}
use mathlib.Core.Bool.{Bool, true, false, cond, ◌&&◌}
use native.Mathlib.Omega.{arith}
use native.Mathlib.Nat.{le_refl, le_trans, le_of_lt}
use lib.Dec.{leb, ltb}
use borrow.Author.Tests.{leb-true, leb-false, ltb-true, ltb-false}
use Rattle.model.specs.declared.Held.{Held}
use Rattle.model.specs.declared.Chosen.{Chosen}
use Rattle.model.specs.declared.Side.TheVariants.{Earlier, Later}
use Rattle.model.specs.Outset.{empty_table, latest, earliest, apart, between, choose_by}
use Rattle.model.proofs.ChoiceLaws.{Choice, choice}

-- ---- one table looked at: what holds of either outcome holds of the one kept

by_tests : (P : Held → Type 0) (p q : Bool) (x y : Held) → (p ≡ true → q ≡ true → P x) → (p ≡ false → P y) → (q ≡ false → P y) → P (cond (p && q) x y)
by_tests P true true x y both first second = both refl refl
by_tests P true false x y both first second = second refl
by_tests P false q x y both first second = first refl

module _ (P : Held → Type 0) (t : ℕ) (best h : Held) where
  later-one-by : (h.time ≤ t → best.time < h.time → P h) → (t < h.time → P best) → (h.time ≤ best.time → P best)
      → P (cond (leb h.time t && ltb best.time h.time) h best)
  later-one-by both after no-later =
      by_tests P (leb h.time t) (ltb best.time h.time) h best (λ p q. both (leb-true h.time t p) (ltb-true best.time h.time q))
      (λ p. after (leb-false h.time t p)) (λ q. no-later (ltb-false best.time h.time q))

  earlier-one-by : (t ≤ h.time → h.time ≤ best.time → P h) → (h.time < t → P best) → (best.time < h.time → P best)
      → P (cond (leb t h.time && leb h.time best.time) h best)
  earlier-one-by both before later =
      by_tests P (leb t h.time) (leb h.time best.time) h best (λ p q. both (leb-true t h.time p) (leb-true h.time best.time q))
      (λ p. before (leb-false t h.time p)) (λ q. later (leb-false h.time best.time q))

skip_second : {a : Held} (x y : Held) {hs : List Held} → Memᴰ a (x ∷ hs) → Memᴰ a (x ∷ (y ∷ hs))
skip_second {a} x y {hs} m = by_cases (Memᴰ.cases_cons m)
  where
    by_cases : (a ≡ x) ⊎ Memᴰ a hs → Memᴰ a (x ∷ (y ∷ hs))
    by_cases (inl e) = Memᴰ.head e
    by_cases (inr n) = Memᴰ.tail (Memᴰ.tail n)

module _ (t : ℕ) where
  -- ---- the earlier candidate

  abbrev later_one : Held → Held → Held
  later_one best h = cond (leb h.time t && ltb best.time h.time) h best

  pub latest-before : (best : Held) (fs : List Held) → best.time ≤ t → (latest t best fs).time ≤ t
  unfolding latest
  latest-before best [] k = k
  latest-before best (h ∷ hs) k = latest-before (later_one best h) hs (later-one-by (λ x. x.time ≤ t) t best h (λ p q. p) (λ p. k) (λ q. k))

  pub latest_member : (best : Held) (fs : List Held) → Memᴰ (latest t best fs) (best ∷ fs)
  unfolding latest
  latest_member best [] = Memᴰ.head refl
  latest_member best (h ∷ hs) =
      later-one-by (λ x. Memᴰ (latest t x hs) (best ∷ (h ∷ hs))) t best h (λ p q. Memᴰ.tail (latest_member h hs))
      (λ p. skip_second best h (latest_member best hs)) (λ q. skip_second best h (latest_member best hs))

  pub latest_rises : (best : Held) (fs : List Held) → best.time ≤ (latest t best fs).time
  unfolding latest
  latest_rises best [] = le_refl best.time
  latest_rises best (h ∷ hs) =
      le_trans (later-one-by (λ x. best.time ≤ x.time) t best h (λ p q. le_of_lt q) (λ p. le_refl best.time) (λ q. le_refl best.time))
      (latest_rises (later_one best h) hs)

  -- no table at or before t is later
  latest-last-of : (h : Held) → h.time ≤ t → (best : Held) (fs : List Held) → Memᴰ h fs → h.time ≤ (latest t best fs).time
  unfolding latest
  latest-last-of h k best [] m = absurd (Memᴰ.not-nil m)
  latest-last-of h k best (x ∷ xs) m = by_cases (λ n. latest-last-of h k (later_one best x) xs n) (Memᴰ.cases_cons m)
    where
      by_cases : (Memᴰ h xs → h.time ≤ (latest t (later_one best x) xs).time) → (h ≡ x) ⊎ Memᴰ h xs → h.time ≤ (latest t (later_one best x) xs).time
      by_cases rest (inl e) =
          let e' : h.time ≡ x.time = ap (λ (y : Held). y.time) e in
          le_trans (later-one-by (λ y. h.time ≤ y.time) t best x (λ p q. omega arith) (λ p. omega arith) (λ q. omega arith)) (latest_rises (later_one best x) xs)
      by_cases rest (inr n) = rest n

  pub latest-last : (best : Held) (fs : List Held) (h : Held) → Memᴰ h (best ∷ fs) → h.time ≤ t → h.time ≤ (latest t best fs).time
  latest-last best fs h m k = by_cases (Memᴰ.cases_cons m)
    where
      by_cases : (h ≡ best) ⊎ Memᴰ h fs → h.time ≤ (latest t best fs).time
      by_cases (inl e) = rw e (latest_rises best fs)
      by_cases (inr n) = latest-last-of h k best fs n

  -- ---- the later candidate

  abbrev earlier_one : Held → Held → Held
  earlier_one best h = cond (leb t h.time && leb h.time best.time) h best

  pub earliest-after : (cur : Held) (fs : List Held) → t ≤ cur.time → t ≤ (earliest t cur fs).time
  unfolding earliest
  earliest-after cur [] k = k
  earliest-after cur (h ∷ hs) k = earliest-after (earlier_one cur h) hs (earlier-one-by (λ x. t ≤ x.time) t cur h (λ p q. p) (λ p. k) (λ q. k))

  pub earliest_member : (cur : Held) (fs : List Held) → Memᴰ (earliest t cur fs) (cur ∷ fs)
  unfolding earliest
  earliest_member cur [] = Memᴰ.head refl
  earliest_member cur (h ∷ hs) =
      earlier-one-by (λ x. Memᴰ (earliest t x hs) (cur ∷ (h ∷ hs))) t cur h (λ p q. Memᴰ.tail (earliest_member h hs))
      (λ p. skip_second cur h (earliest_member cur hs)) (λ q. skip_second cur h (earliest_member cur hs))

  pub earliest_falls : (cur : Held) (fs : List Held) → (earliest t cur fs).time ≤ cur.time
  unfolding earliest
  earliest_falls cur [] = le_refl cur.time
  earliest_falls cur (h ∷ hs) =
      le_trans (earliest_falls (earlier_one cur h) hs)
      (earlier-one-by (λ x. x.time ≤ cur.time) t cur h (λ p q. q) (λ p. le_refl cur.time) (λ q. le_refl cur.time))

  -- no table at or after t is earlier
  earliest-first-of : (h : Held) → t ≤ h.time → (cur : Held) (fs : List Held) → Memᴰ h fs → (earliest t cur fs).time ≤ h.time
  unfolding earliest
  earliest-first-of h k cur [] m = absurd (Memᴰ.not-nil m)
  earliest-first-of h k cur (x ∷ xs) m = by_cases (λ n. earliest-first-of h k (earlier_one cur x) xs n) (Memᴰ.cases_cons m)
    where
      by_cases : (Memᴰ h xs → (earliest t (earlier_one cur x) xs).time ≤ h.time) → (h ≡ x) ⊎ Memᴰ h xs → (earliest t (earlier_one cur x) xs).time ≤ h.time
      by_cases rest (inl e) =
          let e' : h.time ≡ x.time = ap (λ (y : Held). y.time) e in
          le_trans (earliest_falls (earlier_one cur x) xs) (earlier-one-by (λ y. y.time ≤ h.time) t cur x (λ p q. omega arith) (λ p. omega arith) (λ q. omega arith))
      by_cases rest (inr n) = rest n

  pub earliest_first : (cur : Held) (fs : List Held) (h : Held) → Memᴰ h (fs ++ (cur ∷ [])) → t ≤ h.time → (earliest t cur fs).time ≤ h.time
  earliest_first cur fs h m k = by_cases (Memᴰ.append_cases fs m)
    where
      by_cases : Memᴰ h fs ⊎ Memᴰ h (cur ∷ []) → (earliest t cur fs).time ≤ h.time
      by_cases (inl n) = earliest-first-of h k cur fs n
      by_cases (inr n) = rw (Memᴰ.eq_of_singleton n) (earliest_falls cur fs)

-- ---- nearness

-- of two numbers on one side of x, the one between is no farther
pub apart_below : (x y z : ℕ) → z ≤ y → y ≤ x → apart x y ≤ apart x z
apart_below x y z p q = omega arith

pub apart_above : (x y z : ℕ) → x ≤ y → y ≤ z → apart x y ≤ apart x z
apart_above x y z p q = omega arith

module _ (f : ℕ → ℕ) (t : ℕ) (early late : Held) where
  -- the choice is no farther than either candidate
  pub chosen_no_farther : ((choose_by f t early late).between ≤ between f t early) × ((choose_by f t early late).between ≤ between f t late)
  chosen_no_farther = by (choose_by f t early late) (choice f t early late)
    where
      by : (c : Chosen) → Choice f t early late c → (c.between ≤ between f t early) × (c.between ≤ between f t late)
      by c (Choice.later h) = (le_of_lt h, le_refl (between f t late))
      by c (Choice.earlier h) = (le_refl (between f t early), h)

  -- the outset is the candidate on the side that is said
  pub chosen_side : ((choose_by f t early late).side ≡ Earlier → (choose_by f t early late).outset ≡ early) × ((choose_by f t early late).side ≡ Later → (choose_by f t early late).outset ≡ late)
  chosen_side = by (choose_by f t early late) (choice f t early late)
    where
      by : (c : Chosen) → Choice f t early late c → (c.side ≡ Earlier → c.outset ≡ early) × (c.side ≡ Later → c.outset ≡ late)
      by c (Choice.later h) = (λ e. cc, λ e. refl)
      by c (Choice.earlier h) = (λ e. refl, λ e. cc)

  -- what is said lies between the outset and t
  pub chosen-between : (choose_by f t early late).between ≡ between f t (choose_by f t early late).outset
  chosen-between = by (choose_by f t early late) (choice f t early late)
    where
      by : (c : Chosen) → Choice f t early late c → c.between ≡ between f t c.outset
      by c (Choice.later h) = refl
      by c (Choice.earlier h) = refl

  -- the later candidate is strictly nearer where it is chosen
  pub chosen_later : (choose_by f t early late).side ≡ Later → (choose_by f t early late).between < between f t early
  chosen_later = by (choose_by f t early late) (choice f t early late)
    where
      by : (c : Chosen) → Choice f t early late c → c.side ≡ Later → c.between < between f t early
      by c (Choice.later h) e = h
      by c (Choice.earlier h) e = let no : between f t early ≡ suc (between f t early) = cc in omega arith

module _ (f : ℕ → ℕ) (rises : (x y : ℕ) → x ≤ y → f x ≤ f y) (t : ℕ) (cur : Held) (fs : List Held) (reaches : t ≤ cur.time) where
  abbrev early : Held
  early = latest t empty_table fs

  abbrev late : Held
  late = earliest t cur fs

  pub early_nearest : (h : Held) → Memᴰ h (empty_table ∷ fs) → h.time ≤ t → between f t early ≤ between f t h
  early_nearest h m k =
      apart_below (f t) (f early.time) (f h.time) (rises _ _ (latest-last t empty_table fs h m k)) (rises _ _ (latest-before t empty_table fs zero-le))

  pub late_nearest : (h : Held) → Memᴰ h (fs ++ (cur ∷ [])) → t ≤ h.time → between f t late ≤ between f t h
  late_nearest h m k =
      apart_above (f t) (f late.time) (f h.time) (rises _ _ (earliest-after t cur fs reaches)) (rises _ _ (earliest_first t cur fs h m k))

  -- no held table is nearer than the one chosen
  pub nearest : (h : Held) → Memᴰ h (empty_table ∷ (fs ++ (cur ∷ []))) → (choose_by f t early late).between ≤ between f t h
  nearest h m = by_cases (Memᴰ.cases_cons m)
    where
      of-early : Memᴰ h (empty_table ∷ fs) → h.time ≤ t → (choose_by f t early late).between ≤ between f t h
      of-early n k = le_trans (chosen_no_farther f t early late).0 (early_nearest h n k)

      of-late : Memᴰ h (fs ++ (cur ∷ [])) → t ≤ h.time → (choose_by f t early late).between ≤ between f t h
      of-late n k = le_trans (chosen_no_farther f t early late).1 (late_nearest h n k)

      by_order : Memᴰ h fs → (b : Bool) → leb h.time t ≡ b → (choose_by f t early late).between ≤ between f t h
      by_order n true k = of-early (Memᴰ.tail n) (leb-true h.time t k)
      by_order n false k = of-late (Memᴰ.append_left (cur ∷ []) n) (le_of_lt (leb-false h.time t k))

      by_place : Memᴰ h fs ⊎ Memᴰ h (cur ∷ []) → (choose_by f t early late).between ≤ between f t h
      by_place (inl n) = by_order n (leb h.time t) refl
      by_place (inr n) = of-late (Memᴰ.append_right fs n) (rw (Memᴰ.eq_of_singleton n) reaches)

      by_cases : (h ≡ empty_table) ⊎ Memᴰ h (fs ++ (cur ∷ [])) → (choose_by f t early late).between ≤ between f t h
      by_cases (inl e) = of-early (Memᴰ.head e) (rw e zero-le)
      by_cases (inr n) = by_place (Memᴰ.append_cases fs n)

  -- the outset chosen is a held table
  pub chosen-held : Memᴰ (choose_by f t early late).outset (empty_table ∷ (fs ++ (cur ∷ [])))
  chosen-held = by (choose_by f t early late) (choice f t early late)
    where
      of-late : (late ≡ cur) ⊎ Memᴰ late fs → Memᴰ late (empty_table ∷ (fs ++ (cur ∷ [])))
      of-late (inl e) = Memᴰ.tail (Memᴰ.append_right fs (Memᴰ.head e))
      of-late (inr n) = Memᴰ.tail (Memᴰ.append_left (cur ∷ []) n)

      by : (c : Chosen) → Choice f t early late c → Memᴰ c.outset (empty_table ∷ (fs ++ (cur ∷ [])))
      by c (Choice.later h) = of-late (Memᴰ.cases_cons (earliest_member t cur fs))
      by c (Choice.earlier h) = Memᴰ.append_left (cur ∷ []) (latest_member t empty_table fs)
