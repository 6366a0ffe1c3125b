-- The report's set, in which later means of a later time, and 01's, in which it means behind in the log: on a legal
-- log they are one, and its rows are the timeslice's. Assumes nothing.
use Prim.Native.Nat.{ℕ, zero, suc, ◌≤◌, ◌<◌}
use mathlib.Core.Path.{◌≡◌, refl}
use mathlib.Core.Logic.{◌⊎◌, inl, inr, ◌↔◌}
use mathlib.Core.List.{List, [], ◌∷◌}
use mathlib.Core.Bool.{Bool, true, false}
use native.Mathlib.Omega.{arith}
use lib.ListN.{length, get_or}
use lib.Dec.{ltb}
use borrow.Author.Tests.{ltb-true, ltb-false}
use Rattle.model.specs.Records.{Rec, no_record}
use Rattle.model.specs.Rows.{Row, has_row}
use Rattle.model.specs.Timeslice.{row_of, timeslice, NoneOf, InSlice, here, there, InReport}
use Rattle.model.specs.Legal.{legal}
use Rattle.model.proofs.UpToLaws.{NeverFalls}
use Rattle.model.proofs.TimeLaws.{Update, in_time_cases, in_time_at, times_never_fall, times-two-apart}
use Rattle.model.proofs.ReportLaws.{has_of_slice, slice_of_has}

-- ---- no record of an article up to a time, at each place

pub none-at : (t a : ℕ) (rs : List Rec) → NoneOf t a rs → (u : ℕ) → u < length rs → (get_or rs u no_record).article ≡ a → (get_or rs u no_record).time ≤ t → ⊥
unfolding NoneOf
none-at t a [] n u h e l = omega arith
none-at t a (r ∷ rs) n zero h e l = n.0 l e
none-at t a (r ∷ rs) n (suc u) h e l = none-at t a rs n.1 u (omega arith) e l

pub none_of_places : (t a : ℕ) (rs : List Rec) → ((u : ℕ) → u < length rs → (get_or rs u no_record).article ≡ a → (get_or rs u no_record).time ≤ t → ⊥)
    → NoneOf t a rs
unfolding NoneOf
none_of_places t a [] h = tt
none_of_places t a (r ∷ rs) h = ((λ l e. h 0 (omega arith) e l), none_of_places t a rs (λ u k e l. h (suc u) (omega arith) e l))

-- ---- from behind in the log to later in time: times never fall

pub report_of_slice : (t : ℕ) (q : Row) (rs : List Rec) → NeverFalls rs → InSlice t q rs → InReport t q rs
report_of_slice t q [] up s = elim s [ ]
report_of_slice t q (r ∷ rs) up (here k e w n) =
    record { place = 0; in_log = omega arith; inserts = k; at_or_before = e; row_is = w; not_countered = later }
  where
    later : (u : ℕ) → u < length (r ∷ rs) → (get_or (r ∷ rs) u no_record).article ≡ r.article → r.time < (get_or (r ∷ rs) u no_record).time
        → (get_or (r ∷ rs) u no_record).time ≤ t → ⊥
    later zero h f a l = omega arith
    later (suc u) h f a l = none-at t r.article rs n u (omega arith) f l
report_of_slice t q (r ∷ rs) up (there s) = by (report_of_slice t q rs (λ i j h l. up (suc i) (suc j) (omega arith) (omega arith)) s)
  where
    by : InReport t q rs → InReport t q (r ∷ rs)
    by g =
        record {
          place = suc g.place;
          in_log = omega (arith, g.in_log);
          inserts = g.inserts;
          at_or_before = g.at_or_before;
          row_is = g.row_is;
          not_countered = later;
        }
      where
        later : (u : ℕ) → u < length (r ∷ rs) → (get_or (r ∷ rs) u no_record).article ≡ (get_or rs g.place no_record).article
            → (get_or rs g.place no_record).time < (get_or (r ∷ rs) u no_record).time → (get_or (r ∷ rs) u no_record).time ≤ t → ⊥
        later zero h f a l = omega (arith, up 0 (suc g.place) (omega arith) (omega (arith, g.in_log)))
        later (suc u) h f a l = g.not_countered u (omega arith) f a l

-- ---- and back: behind an insertion all times are later

slice_of_place : (t : ℕ) (q : Row) (rs : List Rec) (i : ℕ) → i < length rs → (get_or rs i no_record).kind ≡ 2 → (get_or rs i no_record).time ≤ t
    → row_of (get_or rs i no_record) ≡ q
    → ((u : ℕ) → i < u → u < length rs → (get_or rs u no_record).article ≡ (get_or rs i no_record).article → (get_or rs u no_record).time ≤ t → ⊥)
    → InSlice t q rs
slice_of_place t q [] i h k e w n = absurd (omega arith)
slice_of_place t q (r ∷ rs) zero h k e w n =
    here k e w (none_of_places t r.article rs (λ u b f l. n (suc u) (omega arith) (omega arith) f l))
slice_of_place t q (r ∷ rs) (suc i) h k e w n =
    there (slice_of_place t q rs i (omega arith) k e w (λ u a b f l. n (suc u) (omega arith) (omega arith) f l))

module _ (R : ℕ) (rs : List Rec) (ok : legal R rs ≡ true) where
  pub behind-insertion : (i u : ℕ) → i < u → u < length rs → (get_or rs i no_record).kind ≡ 2 → (get_or rs i no_record).time < (get_or rs u no_record).time
  behind-insertion i u h l k = by (ltb (suc i) u) refl
    where
      next : ((get_or rs i no_record).time < (get_or rs (suc i) no_record).time) ⊎ Update (get_or rs i no_record) (get_or rs (suc i) no_record)
          → (get_or rs i no_record).time < (get_or rs (suc i) no_record).time
      next (inl x) = x
      next (inr x) = absurd (omega (arith, x.deletes))

      by : (b : Bool) → ltb (suc i) u ≡ b → (get_or rs i no_record).time < (get_or rs u no_record).time
      by true e =
          let two : suc i < u = ltb-true _ _ e in
          times-two-apart R rs ok i u (omega arith) l
      by false e =
          let one : u ≤ suc i = ltb-false _ _ e in
          let is : u ≡ suc i = omega arith in
          rw is (next (in_time_cases _ _ (in_time_at R rs ok i (omega arith))))

  pub slice_of_report : (t : ℕ) (q : Row) → InReport t q rs → InSlice t q rs
  slice_of_report t q g =
      slice_of_place t q rs g.place g.in_log g.inserts g.at_or_before g.row_is
      (λ u a b f l. g.not_countered u b f (behind-insertion g.place u a b g.inserts) l)

  pub slice_iff_report : (t : ℕ) (q : Row) → InSlice t q rs ↔ InReport t q rs
  slice_iff_report t q = (report_of_slice t q rs (times_never_fall R rs ok), slice_of_report t q)

  -- so the rows of the timeslice are the report's
  pub has_iff_report : (t : ℕ) (q : Row) → (has_row q (timeslice t rs) ≡ true) ↔ InReport t q rs
  has_iff_report t q =
      ((λ h. report_of_slice t q rs (times_never_fall R rs ok) (slice_of_has t q rs h)), λ g. has_of_slice t q rs (slice_of_report t q g))
