-- On audited memory: the index holds the packed tree of the log, and every held table, so also the outset chosen, is the
-- table of its time. Assumes nothing.
use Prim.Native.Nat.{ℕ, suc, ◌*◌, ◌≤◌, zero-le}
use mathlib.Core.Path.{◌≡◌, refl, sym, ap, ◌∙◌}
use mathlib.Core.Logic.{◌⊎◌, inl, inr}
use mathlib.Core.List.Memᴰ
use mathlib.Core.List.{List, [], ◌∷◌, ◌++◌, Memᴰ}
use native.Mathlib.Omega.{arith}
use lib.ListN.{length, take, drop}
use lib.Seq.{take-take}
use Rattle.codec.specs.Parts.{part}
use Rattle.model.specs.declared.Entry.{Entry}
use Rattle.model.specs.declared.Held.{Held}
use Rattle.model.specs.declared.Position.{Position}
use Rattle.model.specs.declared.Chosen.{Chosen}
use Rattle.model.specs.declared.Place.TheVariants.{Area}
use Rattle.model.specs.Rows.{Row, rows_bytes, table_bytes}
use Rattle.model.specs.Timeslice.{timeslice}
use Rattle.model.specs.Pages.{records_up_to}
use Rattle.model.specs.Numbering.{node_word}
use Rattle.model.specs.Tree.{Packed}
use Rattle.model.specs.Memory.{State, log_of, keys_of}
use Rattle.model.specs.Positions.{position_at}
use Rattle.model.specs.Outset.{empty_table, current_table, files_from, files_held, held, measure, earlier_for, later_for, outset_for}
use Rattle.model.specs.Queries.{rows_part}
use Rattle.model.specs.Files.{files_in}
use Rattle.model.specs.Facts.{FileIs, FilesAre, AuditedFacts}
use Rattle.model.proofs.TimeLaws.{timeslice_rows, timeslice_zero}
use Rattle.model.proofs.UpToLaws.{records_up_to_le}
use Rattle.model.proofs.ChoiceLaws.{Choice, choice}
use Rattle.model.proofs.BetweenLaws.{requests_rise}
use Rattle.model.proofs.PageLaws.{length_page_times}
use Rattle.model.proofs.RecordLaws.{length-records}
use Rattle.tree.proofs.Written.{with_packed}
use Rattle.rows.proofs.TableBytes.{table-bytes_rows}
use Rattle.catalogue.specs.declared.Candidates.{Candidates}
use Rattle.catalogue.specs.Candidates.{candidates_in}
use Rattle.catalogue.proofs.CandidateLaws.{used_all}
use Rattle.limits.proofs.FitLaws.{capacity_sixteen}
use Rattle.model.proofs.LateLaws.{answered_held}
use Rattle.model.proofs.NearestLaws.{latest-before, earliest-after, chosen-held}
use Rattle.pages.specs.Paged.{PositionIs}
use Rattle.outsets.specs.declared.Used.{Used}
use Rattle.outsets.specs.Used.{Describes, NearestIs}
use Rattle.tables.specs.Ways.{OnSide}

-- a held table lies where it is said to, as the rows of the log's table of its time
pub record Holds (st : State) (h : Held) : Type 0 where
  pub rows_few : h.rows ≤ st.numbers.limit
  pub part_is : rows_part st.numbers.limit st.memory h.place h.rows ≡ rows_bytes (timeslice h.time (log_of st))

-- the rows in front of a table's bytes
rows_front : (R m : ℕ) (T : List Row) (xs : List ℕ) → m ≡ length T → length T ≤ R → take (8 * R) xs ≡ table_bytes R T → take (8 * m) xs ≡ rows_bytes T
rows_front R m T xs e few is =
    sym (take-take (8 * m) (8 * R) xs (omega arith)) ∙ ap (take (8 * m)) is ∙ ap (λ (n : ℕ). take (8 * n) (table_bytes R T)) e ∙ table-bytes_rows R T

module _ (st : State) (f : AuditedFacts st) where
  -- ---- the index

  pub index_packed : Packed (node_word st.numbers.order) st.numbers.order (keys_of st) st.memory.index
  index_packed =
      let s = st.numbers in
      let n : length (log_of st) ≡ s.records = length-records (drop 24 st.memory.log) s.records in
      let keys = length_page_times s.page (omega (arith, f.limits.page_low)) (log_of st) in
      rw f.index_is at (with_packed s.order f.limits.order_low (keys_of st) st.memory.index (rw (keys, n) f.limits.long_index))

  describes : Describes st.numbers st.memory.log st.memory.index
  describes = record { log_legal = f.log_legal; packed = index_packed }

  pub is_position : {t : ℕ} {p : Position} → PositionIs st.numbers t st.memory.log st.memory.index p → p ≡ position_at st t
  is_position h = h.position_is st.numbers.limit f.log_legal index_packed

  -- ---- held tables

  few : (t : ℕ) → length (timeslice t (log_of st)) ≤ st.numbers.limit
  few = timeslice_rows st.numbers.limit (log_of st) f.log_legal

  holds-empty : Holds st empty_table
  unfolding rows_part rows_bytes
  holds-empty = record { rows_few = zero-le; part_is = rw (timeslice_zero st.numbers.limit (log_of st) f.log_legal) }

  holds-current : Holds st (current_table st)
  unfolding rows_part
  holds-current =
      let T = timeslice st.numbers.last (log_of st) in
      record {
        rows_few = rw f.live_is (few st.numbers.last);
        part_is = rows_front st.numbers.limit st.numbers.live T st.memory.table f.live_is (few st.numbers.last) f.table_is;
      }

  holds-file : (i before : ℕ) (e : Entry) → FileIs st.numbers.limit st.numbers.last (log_of st) before (record { entry = e; area = part (8 * st.numbers.limit * i) (8 * st.numbers.limit) st.memory.areas })
      → Holds st (record { time = e.time; place = Area i; rows = e.rows })
  unfolding rows_part
  holds-file i before e is =
      let R = st.numbers.limit in
      let T = timeslice e.time (log_of st) in
      record {
        rows_few = rw is.rows_are (few e.time);
        part_is = rows_front R e.rows T (drop (8 * R * i) st.memory.areas) is.rows_are (few e.time) is.area_is;
      }

  holds-files : (i before : ℕ) (es : List Entry) → FilesAre st.numbers.limit st.numbers.last (log_of st) before (files_in st.numbers.limit st.memory.areas i es)
      → (h : Held) → Memᴰ h (files_from i es) → Holds st h
  unfolding files_in files_from FilesAre
  holds-files i before [] fs h m = absurd (Memᴰ.not-nil m)
  holds-files i before (e ∷ es) fs h m = by (λ n. holds-files (suc i) e.time es fs.1 h n) (Memᴰ.cases_cons m)
    where
      by : (Memᴰ h (files_from (suc i) es) → Holds st h) → (h ≡ record { time = e.time; place = Area i; rows = e.rows }) ⊎ Memᴰ h (files_from (suc i) es) → Holds st h
      by rest (inl q) = rw q (holds-file i before e fs.0)
      by rest (inr n) = rest n

  pub holds_held : (h : Held) → Memᴰ h (held st) → Holds st h
  holds_held h m = by (Memᴰ.cases_cons m)
    where
      by_place : Memᴰ h (files_held st) ⊎ Memᴰ h (current_table st ∷ []) → Holds st h
      by_place (inl n) = holds-files 0 0 (take st.numbers.files st.memory.catalogue) f.files_are h n
      by_place (inr n) = rw (Memᴰ.eq_of_singleton n) holds-current

      by : (h ≡ empty_table) ⊎ Memᴰ h (files_held st ++ (current_table st ∷ [])) → Holds st h
      by (inl e) = rw e holds-empty
      by (inr n) = by_place (Memᴰ.append_cases (files_held st) n)

-- ---- the outset chosen

-- between the two candidates for t, a time up to the last, the one that the store's outset is
pub chosen_of : (st : State) (f : AuditedFacts st) (t : ℕ) (c : Candidates) (u : Used) → t ≤ st.numbers.last
    → c ≡ candidates_in st.numbers t st.memory.catalogue → NearestIs st.numbers c.early c.late t st.memory.log st.memory.index u
    → u.chosen ≡ outset_for st t
chosen_of st f t c u h is near =
    let s = st.numbers in
    let es = st.memory.catalogue in
    let sixteen : s.files ≤ 16 = capacity_sixteen s.limit (length es) (length st.memory.areas) s.files f.limits.files_few in
    let both : (c.early ≡ earlier_for st t) × (c.late ≡ later_for st t) = rw (is, answered_held s.last t h, used_all s es sixteen) (refl, refl) in
    rw (← both.0, ← both.1) (near.chosen_is (describes st f))

pub chosen_holds : (st : State) (f : AuditedFacts st) (t : ℕ) → t ≤ st.numbers.last → Holds st (outset_for st t).outset
chosen_holds st f t h =
    holds_held st f (outset_for st t).outset (chosen-held (measure st) (requests_rise st) t (current_table st) (files_held st) h)

-- the earlier one's records end before those up to t, the later one's after them
pub chosen-on_side : (st : State) (t : ℕ) → t ≤ st.numbers.last
    → OnSide (outset_for st t).side (records_up_to (outset_for st t).outset.time (log_of st)) (records_up_to t (log_of st))
unfolding OnSide
chosen-on_side st t h = by (outset_for st t) (choice (measure st) t (earlier_for st t) (later_for st t))
  where
    by : (c : Chosen) → Choice (measure st) t (earlier_for st t) (later_for st t) c
        → OnSide c.side (records_up_to c.outset.time (log_of st)) (records_up_to t (log_of st))
    by c (Choice.later g) = records_up_to_le t (later_for st t).time (log_of st) (earliest-after t (current_table st) (files_held st) h)
    by c (Choice.earlier g) = records_up_to_le (earlier_for st t).time t (log_of st) (latest-before t empty_table (files_held st) zero-le)
