-- Marks (02, wish 3): they are small, and no table or view depends on them. Assumes nothing.
use Prim.Native.Nat.{ℕ, zero, suc, ◌≤◌}
use mathlib.Core.Path.{◌≡◌, refl}
use mathlib.Core.List.{List, [], ◌∷◌, map}
use mathlib.Core.Bool.{Bool, true, false, ◌||◌, false≢true}
use native.Mathlib.Omega.{arith}
use lib.ListN.{take, length-map}
use lib.Dec.{eqb}
use borrow.Author.Tests.{eqb-true}
use Rattle.model.specs.declared.Entry.{Entry}
use Rattle.model.specs.declared.Place.{Place}
use Rattle.model.specs.declared.Place.TheVariants.{Empty, Area, Current}
use Rattle.model.specs.Marks.{goes, is_mark}
use Rattle.model.specs.Memory.{State}
use Rattle.model.specs.Outset.{files_from, files_held, outset_for}
use Rattle.model.specs.Queries.{table_of, rows_part, view_of}
use Rattle.model.specs.OtherMarks.{remarked, with_marks, MarksIgnored}

pub mark_small : (k : ℕ) → is_mark k ≡ true → k ≤ 7
unfolding is_mark goes
mark_small k = by (eqb k 0) refl (eqb k 5) refl (eqb k 7) refl
  where
    by : (a : Bool) → eqb k 0 ≡ a → (b : Bool) → eqb k 5 ≡ b → (c : Bool) → eqb k 7 ≡ c → (a || (b || c)) ≡ true → k ≤ 7
    by true p b q c r h = omega (arith, eqb-true k 0 p)
    by false p true q c r h = omega (arith, eqb-true k 5 q)
    by false p false q true r h = omega (arith, eqb-true k 7 r)
    by false p false q false r h = absurd (false≢true h)

module _ (f : Entry → ℕ) where
  -- the same times, places and rows are held
  same-held : (i n : ℕ) (es : List Entry) → files_from i (take n (map (remarked f) es)) ≡ files_from i (take n es)
  unfolding files_from
  same-held i zero es = refl
  same-held i (suc n) [] = refl
  same-held i (suc n) (e ∷ es) = rw (same-held (suc i) n es)

  module _ (st : State) where
    files-same : files_held (with_marks f st) ≡ files_held st
    files-same = same-held 0 st.numbers.files st.memory.catalogue

    outset-same : (t : ℕ) → outset_for (with_marks f st) t ≡ outset_for st t
    outset-same t = rw files-same

    part_same : (p : Place) (rows : ℕ) → rows_part st.numbers.limit (with_marks f st).memory p rows ≡ rows_part st.numbers.limit st.memory p rows
    unfolding rows_part
    part_same Empty rows = refl
    part_same (Area i) rows = refl
    part_same Current rows = refl

    pub marks_ignored : MarksIgnored f st
    unfolding table_of view_of
    marks_ignored =
        record {
          outset = outset-same;
          table = λ t out. rw (length-map st.memory.catalogue (remarked f), files-same);
          view = λ t. rw (length-map st.memory.catalogue (remarked f), files-same, part_same);
        }
