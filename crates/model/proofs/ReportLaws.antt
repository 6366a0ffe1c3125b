-- The timeslice has the report's rows and no others, and is the only ascending list that has. Assumes nothing.
use Prim.Native.Nat.{ℕ, ◌≤◌, ◌<◌}
use mathlib.Core.Path.{◌≡◌, refl, sym, ◌∙◌}
use mathlib.Core.List.{List, [], ◌∷◌}
use mathlib.Core.Bool.{Bool, true, false, not, ◌&&◌, ◌||◌, false≢true}
use native.Mathlib.Omega.{arith}
use lib.Dec.{leb, eqb}
use borrow.Author.Tests.{eq-eqb, eqb-true, eqb-false, leb-true, leb-false, le-leb}
use Rattle.model.specs.Records.{Rec, is_insertion}
use Rattle.model.specs.Rows.{Row, same_row, has_row, Ascending}
use Rattle.model.specs.Timeslice.{row_of, named, table, up_to, timeslice, NoneOf, InSlice, here, there}
use Rattle.model.proofs.Compare.{eqb_self, or_right}
use Rattle.model.proofs.RowSets.{same-row_true, has_in, asc_same}
use Rattle.model.proofs.SliceLaws.{asc_table}

pub unnamed_of_none : (t a : ℕ) (rs : List Rec) → NoneOf t a rs → named a (up_to t rs) ≡ false
unfolding NoneOf named up_to
unnamed_of_none t a [] h = refl
unnamed_of_none t a (x ∷ xs) h = by (unnamed_of_none t a xs h.1) (leb x.time t) refl (eqb x.article a) refl
  where
    by : named a (up_to t xs) ≡ false → (p : Bool) → leb x.time t ≡ p → (q : Bool) → eqb x.article a ≡ q → named a (up_to t (x ∷ xs)) ≡ false
    by ih true e true f = absurd (h.0 (leb-true _ _ e) (eqb-true _ _ f))
    by ih true e false f = rw (e, f) ih
    by ih false e q f = rw e ih

pub none_of_unnamed : (t a : ℕ) (rs : List Rec) → named a (up_to t rs) ≡ false → NoneOf t a rs
unfolding NoneOf named up_to
none_of_unnamed t a [] h = tt
none_of_unnamed t a (x ∷ xs) h = by (none_of_unnamed t a xs) (leb x.time t) refl (eqb x.article a) refl
  where
    by : (named a (up_to t xs) ≡ false → NoneOf t a xs) → (p : Bool) → leb x.time t ≡ p → (q : Bool) → eqb x.article a ≡ q → NoneOf t a (x ∷ xs)
    by ih true e true f = absurd (false≢true (sym (rw (e, f) at h)))
    by ih true e false f = ((λ g k. eqb-false _ _ f k), ih (rw (e, f) at h))
    by ih false e q f = ((λ g k. let w : t < x.time = leb-false _ _ e in omega arith), ih (rw e at h))

-- a row of the report's set is a row of the timeslice
pub has_of_slice : (t : ℕ) (q : Row) (rs : List Rec) → InSlice t q rs → has_row q (timeslice t rs) ≡ true
unfolding timeslice table up_to
has_of_slice t q [] s = elim s [ ]
has_of_slice t q (x ∷ xs) (here k e w n) =
    rw (le-leb _ _ e, eq-eqb _ _ k, unnamed_of_none t x.article xs n)
    (has_in q (row_of x) (table (up_to t xs)) ∙ rw (← w, eqb_self x.article, eqb_self x.count))
has_of_slice t q (x ∷ xs) (there i) = by (has_of_slice t q xs i) (leb x.time t) refl (is_insertion x && not (named x.article (up_to t xs))) refl
  where
    by : has_row q (timeslice t xs) ≡ true → (p : Bool) → leb x.time t ≡ p → (u : Bool) → (is_insertion x && not (named x.article (up_to t xs))) ≡ u → has_row q (timeslice t (x ∷ xs)) ≡ true
    by ih false e u f = rw e ih
    by ih true e false f = rw (e, f) ih
    by ih true e true f = rw (e, f) (has_in q (row_of x) (table (up_to t xs)) ∙ or_right (same_row (row_of x) q) (has_row q (table (up_to t xs))) ih)

-- and a row of the timeslice is one of the set
pub slice_of_has : (t : ℕ) (q : Row) (rs : List Rec) → has_row q (timeslice t rs) ≡ true → InSlice t q rs
unfolding timeslice table up_to has_row
slice_of_has t q [] h = absurd (false≢true h)
slice_of_has t q (x ∷ xs) h = by (slice_of_has t q xs) (leb x.time t) refl (is_insertion x) refl (named x.article (up_to t xs)) refl
  where
    put : (has_row q (timeslice t xs) ≡ true → InSlice t q xs) → x.time ≤ t → x.kind ≡ 2 → named x.article (up_to t xs) ≡ false
        → (a : Bool) → same_row (row_of x) q ≡ a → (a || has_row q (table (up_to t xs))) ≡ true → InSlice t q (x ∷ xs)
    put ih e k n true w g = here k e (same-row_true (row_of x) q w) (none_of_unnamed t x.article xs n)
    put ih e k n false w g = there (ih g)

    by : (has_row q (timeslice t xs) ≡ true → InSlice t q xs) → (p : Bool) → leb x.time t ≡ p → (k : Bool) → is_insertion x ≡ k → (n : Bool) → named x.article (up_to t xs) ≡ n → InSlice t q (x ∷ xs)
    by ih false e k ek n en = there (ih (rw e at h))
    by ih true e false ek n en = there (ih (rw (e, ek) at h))
    by ih true e true ek true en = there (ih (rw (e, ek, en) at h))
    by ih true e true ek false en =
        put ih (leb-true _ _ e) (eqb-true _ _ ek) en (same_row (row_of x) q) refl (sym (has_in q (row_of x) (table (up_to t xs))) ∙ (rw (e, ek, en) at h))

-- ---- uniqueness

pub asc_timeslice : (t : ℕ) (rs : List Rec) → Ascending 0 (timeslice t rs)
unfolding timeslice
asc_timeslice t rs = asc_table (up_to t rs)

-- ascending rows that are the report's set are the timeslice
pub timeslice_only : (t : ℕ) (rs : List Rec) (T : List Row) → Ascending 0 T
    → ((q : Row) → has_row q T ≡ true → InSlice t q rs) → ((q : Row) → InSlice t q rs → has_row q T ≡ true) → T ≡ timeslice t rs
timeslice_only t rs T asc only all = asc_same 0 0 T (timeslice t rs) asc (asc_timeslice t rs) (λ q. by q (has_row q T) refl (has_row q (timeslice t rs)) refl)
  where
    by : (q : Row) → (a : Bool) → has_row q T ≡ a → (b : Bool) → has_row q (timeslice t rs) ≡ b → has_row q T ≡ has_row q (timeslice t rs)
    by q true e b f = e ∙ sym (has_of_slice t q rs (only q e))
    by q false e true f = all q (slice_of_has t q rs f) ∙ sym f
    by q false e false f = e ∙ sym f
