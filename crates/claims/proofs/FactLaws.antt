-- What the facts of an audited state come to for the calls: the number of its records, its rows now, the room of its
-- index and the packed tree that it holds. Assumes nothing.
use Prim.Native.Nat.{ℕ, ◌^◌, ◌≤◌, ◌<◌}
use mathlib.Core.Path.{◌≡◌, ap, ◌∙◌}
use mathlib.Core.List.{List, [], ◌∷◌}
use mathlib.Core.Bool.{Bool, true, false, cond}
use native.Mathlib.Omega.{arith}
use lib.ListN.{length, drop}
use lib.Dec.{eqb}
use Rattle.codec.proofs.Numbers.{are_bytes-drop}
use Rattle.model.specs.Records.{Rec}
use Rattle.model.specs.Rows.{Row, count_of}
use Rattle.model.specs.Small.{RowsBelow, RecordsBelow, Small}
use Rattle.model.specs.Timeslice.{timeslice, table}
use Rattle.model.specs.Pages.{pages_of}
use Rattle.model.specs.Tree.{index_words}
use Rattle.model.specs.Memory.{State, Lendable, log_of, rows_now, keys_of}
use Rattle.model.specs.Queries.{rows_at}
use Rattle.model.specs.Demands.{IndexIsPacked}
use Rattle.model.proofs.PageLaws.{length_page_times}
use Rattle.model.proofs.RecordLaws.{length-records}
use Rattle.model.proofs.SmallLaws.{below_timeslice}
use Rattle.model.proofs.TimeLaws.{timeslice_rows, timeslice-last}
use Rattle.tree.proofs.Written.{with_packed}
use Rattle.logs.specs.Widths.{RecordsFit}
use Rattle.logs.proofs.Appends.{all_fit_records}
use Rattle.model.specs.Facts.{AuditedFacts}

-- the number of a state's records is that of its list
pub length-log : (st : State) → length (log_of st) ≡ st.numbers.records
length-log st = length-records (drop 24 st.memory.log) st.numbers.records

-- ---- records and rows fit their fields

pub log-fits : (st : State) → Lendable st.memory → RecordsFit (log_of st)
log-fits st l = all_fit_records (drop 24 st.memory.log) st.numbers.records (are_bytes-drop 24 st.memory.log l.log_bytes)

below_of_fit : (rs : List Rec) → RecordsFit rs → RecordsBelow (2 ^ 32) rs
unfolding RecordsFit RecordsBelow
below_of_fit [] f = tt
below_of_fit (r ∷ rs) f = ((f.0.article_fits, f.0.count_fits), below_of_fit rs f.1)

pub rows_small : (st : State) → Lendable st.memory → (t : ℕ) → Small (rows_at st t)
rows_small st l t = below_timeslice (2 ^ 32) t (log_of st) (below_of_fit (log_of st) (log-fits st l))

count_below : (b a : ℕ) (T : List Row) → 0 < b → RowsBelow b T → count_of a T < b
unfolding RowsBelow count_of
count_below b a [] h s = h
count_below b a (x ∷ xs) h s = by (count_below b a xs h s.1) (eqb x.article a)
  where
    by : count_of a xs < b → (t : Bool) → cond t x.count (count_of a xs) < b
    by ih true = s.0.1
    by ih false = ih

pub count_fits : (st : State) → Lendable st.memory → (a : ℕ) → count_of a (rows_now st) < 2 ^ 32
count_fits st l a = count_below (2 ^ 32) a (rows_now st) (omega arith) (rows_small st l st.numbers.last)

module _ (st : State) (f : AuditedFacts st) where
  -- ---- rows

  -- the rows now are those of the whole log
  pub rows_now_lem : rows_now st ≡ table (log_of st)
  rows_now_lem = ap (λ (t : ℕ). timeslice t (log_of st)) f.last_is ∙ timeslice-last st.numbers.limit (log_of st) f.log_legal

  pub rows_few : (t : ℕ) → length (rows_at st t) ≤ st.numbers.limit
  rows_few = timeslice_rows st.numbers.limit (log_of st) f.log_legal

  -- ---- the index

  pub key_count : length (keys_of st) ≡ pages_of st.numbers.page st.numbers.records
  key_count = length_page_times st.numbers.page (omega (arith, f.limits.page_low)) (log_of st) ∙ ap (pages_of st.numbers.page) (length-log st)

  pub key_room : index_words st.numbers.order (length (keys_of st)) ≤ length st.memory.index
  key_room = rw key_count f.limits.long_index

  pub index_packed : IndexIsPacked st
  index_packed = rw f.index_is at (with_packed st.numbers.order f.limits.order_low (keys_of st) st.memory.index key_room)
