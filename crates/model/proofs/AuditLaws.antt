-- What the audit's yes means, by name, and that these facts are all it asks. Assumes nothing.
use Prim.Native.Nat.{ℕ, zero, suc, ◌+◌, ◌-◌, ◌*◌, ◌/◌, ◌≤◌}
use mathlib.Core.Path.{◌≡◌, refl, ap, ◌∙◌}
use mathlib.Core.List.{List, [], ◌∷◌}
use mathlib.Core.Bool.{Bool, true, false, not, ◌&&◌, ◌||◌}
use native.Mathlib.Omega.{arith}
use native.Mathlib.Nat.{min-le_left, min-le_right, le_trans, le-div_iff_mul-le, mul_comm}
use lib.ListN.{length, take, drop, replicate, length-drop}
use lib.Seq.{length-take-le}
use lib.Dec.{leb, ltb, eqb}
use borrow.Author.Tests.{leb-true, le-leb, ltb-true, lt-ltb, eqb-true, eq-eqb}
use Rattle.codec.specs.Parts.{same}
use Rattle.codec.proofs.Sameness.{same_true, same_of_equal}
use Rattle.model.specs.declared.Entry.{Entry}
use Rattle.model.specs.Settings.{order_in_range, page_size_in_range, row_limit_in_range, records_in_range}
use Rattle.model.specs.Records.{records, records_of, header_bytes}
use Rattle.model.specs.Rows.{table_bytes}
use Rattle.model.specs.Marks.{is_mark}
use Rattle.model.specs.Timeslice.{timeslice}
use Rattle.model.specs.Legal.{legal, last_from, last_time}
use Rattle.model.specs.Pages.{index_need}
use Rattle.model.specs.Tree.{with_tree}
use Rattle.model.specs.Memory.{State, no_entry, log_of, rows_now, keys_of, sound, fits_but_index, fits, numbers_in_range, log_long, index_long, table_long, is_header, capacity, capacity_of}
use Rattle.model.specs.Files.{File, files_of}
use Rattle.model.specs.Audit.{audit_of, log_audited, table_audited, index_audited, files_audited, entries_zero, rest_audited, Audited}
use Rattle.model.proofs.Compare.{and_left, and_right, and_both}
use Rattle.model.proofs.TimeLaws.{timeslice_rows}
use Rattle.model.specs.Facts.{FilesAre, InLimits, AuditedFacts}

-- ---- capacity

pub capacity_entries : (R entries bytes : ℕ) → capacity R entries bytes ≤ entries
unfolding capacity
capacity_entries R entries bytes = le_trans (min-le_right 16 _) (min-le_left entries _)

pub capacity_areas : (R entries bytes : ℕ) → capacity R entries bytes ≤ bytes / (8 * R)
unfolding capacity
capacity_areas R entries bytes = le_trans (min-le_right 16 _) (min-le_right entries _)

-- whole areas of the capacity lie within the areas lent
pub areas_within : (R entries bytes : ℕ) → 1 ≤ R → 8 * R * capacity R entries bytes ≤ bytes
areas_within R entries bytes some =
    rw (mul_comm (8 * R) (capacity R entries bytes))
    ((le-div_iff_mul-le {k = 8 * R} {x = capacity R entries bytes} {y = bytes} (omega arith)).0 (capacity_areas R entries bytes))

-- the capacity is the most files that the three bounds let be, the last by a product in place of the division
pub within_capacity : (R entries bytes k : ℕ) → 1 ≤ R → k ≤ 16 → k ≤ entries → 8 * R * k ≤ bytes → k ≤ capacity R entries bytes
unfolding capacity
within_capacity R entries bytes k some few lent long =
    let whole : k ≤ bytes / (8 * R) = (le-div_iff_mul-le {k = 8 * R} {x = k} {y = bytes} (omega arith)).1 (omega (arith, mul_comm (8 * R) k)) in
    omega arith

-- ---- zero entries

pub entry_zero : {e : Entry} → e.time ≡ 0 → e.rows ≡ 0 → e.mark ≡ 0 → e ≡ no_entry
entry_zero {e} t r k =
    let g : ◌≡◌ {A = Entry} (record { time = e.time; rows = e.rows; mark = e.mark }) (record { time = 0; rows = 0; mark = 0 }) = cc in
    g

pub zero_entries : (es : List Entry) → entries_zero es ≡ true → es ≡ replicate (length es) no_entry
unfolding entries_zero
zero_entries [] h = refl
zero_entries (e ∷ es) h =
    let t = eqb e.time 0 in
    let r = eqb e.rows 0 in
    let k = eqb e.mark 0 in
    let front = and_left (t && r && k) (entries_zero es) h in
    let two = and_left (t && r) k front in
    let one : e ≡ no_entry = entry_zero (eqb-true _ _ (and_left t r two)) (eqb-true _ _ (and_right t r two)) (eqb-true _ _ (and_right (t && r) k front)) in
    let rest : es ≡ replicate (length es) no_entry = zero_entries es (and_right (t && r && k) (entries_zero es) h) in
    cc

pub entries_zero_lem : (n : ℕ) → entries_zero (replicate n no_entry) ≡ true
unfolding entries_zero
entries_zero_lem zero = refl
entries_zero_lem (suc n) = entries_zero_lem n

-- ---- files

pub files_of_test : (st : State) (before : ℕ) (fs : List File) → files_audited st before fs ≡ true
    → FilesAre st.numbers.limit st.numbers.last (log_of st) before fs
unfolding files_audited FilesAre
files_of_test st before [] h = tt
files_of_test st before (f ∷ fs) h =
    let t = f.entry.time in
    let R = st.numbers.limit in
    let rows = timeslice t (log_of st) in
    let a = ltb before t in
    let b = leb t st.numbers.last in
    let c = eqb f.entry.rows (length rows) in
    let d = same f.area (table_bytes R rows) in
    let e = is_mark f.entry.mark in
    let more = files_audited st t fs in
    let h5 = and_left (a && b && c && d && e) more h in
    let h4 = and_left (a && b && c && d) e h5 in
    let h3 = and_left (a && b && c) d h4 in
    let h2 = and_left (a && b) c h3 in (
      record {
        later = ltb-true _ _ (and_left a b h2);
        held = leb-true _ _ (and_right a b h2);
        rows_are = eqb-true _ _ (and_right (a && b) c h3);
        area_is = same_true _ _ (and_right (a && b && c) d h4);
        mark_is = and_right (a && b && c && d) e h5;
      },
      files_of_test st t fs (and_right (a && b && c && d && e) more h),
    )

pub test_of_files : (st : State) (before : ℕ) (fs : List File) → FilesAre st.numbers.limit st.numbers.last (log_of st) before fs
    → files_audited st before fs ≡ true
unfolding files_audited FilesAre
test_of_files st before [] h = refl
test_of_files st before (f ∷ fs) h =
    rw (lt-ltb _ _ h.0.later, le-leb _ _ h.0.held, eq-eqb _ _ h.0.rows_are, same_of_equal _ _ h.0.area_is, h.0.mark_is) (test_of_files st f.entry.time fs h.1)

-- ---- question 1

pub limits_of_sound : (st : State) → sound st ≡ true → InLimits st × (is_header st.numbers st.memory.log ≡ true)
unfolding fits fits_but_index numbers_in_range order_in_range page_size_in_range row_limit_in_range records_in_range log_long index_long table_long
limits_of_sound st h =
    let s = st.numbers in
    let m = st.memory in
    let d1 = leb 2 s.order in
    let d2 = leb s.order 64 in
    let n1 = leb 2 s.page in
    let n2 = leb s.page 64 in
    let r1 = leb 1 s.limit in
    let r2 = leb s.limit 1024 in
    let c1 = leb s.records 65536 in
    let numbers : Bool = (d1 && d2) && (n1 && n2) && (r1 && r2) && c1 in
    let log = leb (24 + 24 * s.records) (length m.log) in
    let index = leb (index_need s.order s.page s.records) (length m.index) in
    let table = leb (8 * s.limit) (length m.table) in
    let live = leb s.live s.limit in
    let files = leb s.files (capacity_of s.limit m) in
    let header = is_header s m.log in
    let h6 = and_left (numbers && log && header && table && live && files) index h in
    let h5 = and_left (numbers && log && header && table && live) files h6 in
    let h4 = and_left (numbers && log && header && table) live h5 in
    let h3 = and_left (numbers && log && header) table h4 in
    let h2 = and_left (numbers && log) header h3 in
    let h1 = and_left numbers log h2 in
    let three = and_left ((d1 && d2) && (n1 && n2) && (r1 && r2)) c1 h1 in
    let two = and_left ((d1 && d2) && (n1 && n2)) (r1 && r2) three in
    let ds = and_left (d1 && d2) (n1 && n2) two in
    let ns = and_right (d1 && d2) (n1 && n2) two in
    let rs = and_right ((d1 && d2) && (n1 && n2)) (r1 && r2) three in (
      record {
        order_low = leb-true _ _ (and_left d1 d2 ds);
        order_high = leb-true _ _ (and_right d1 d2 ds);
        page_low = leb-true _ _ (and_left n1 n2 ns);
        page_high = leb-true _ _ (and_right n1 n2 ns);
        limit_low = leb-true _ _ (and_left r1 r2 rs);
        limit_high = leb-true _ _ (and_right r1 r2 rs);
        records_few = leb-true _ _ (and_right ((d1 && d2) && (n1 && n2) && (r1 && r2)) c1 h1);
        long_log = leb-true _ _ (and_right numbers log h2);
        long_index = leb-true _ _ (and_right (numbers && log && header && table && live && files) index h);
        long_table = leb-true _ _ (and_right (numbers && log && header) table h4);
        files_few = leb-true _ _ (and_right (numbers && log && header && table && live) files h6);
      },
      and_right (numbers && log) header h3,
    )

-- ---- the whole

pub audited_facts : (st : State) → Audited st → AuditedFacts st
unfolding audit_of log_audited table_audited index_audited rest_audited is_header
audited_facts st h =
    let s = st.numbers in
    let m = st.memory in
    let none : Bool = not (eqb s.records 0) || eqb s.last 0 in
    let bytes = same (take 24 m.log) (header_bytes s) in
    let log1 = legal s.limit (log_of st) in
    let log2 = eqb s.last (last_time (log_of st)) in
    let table1 = eqb s.live (length (rows_now st)) in
    let table2 = same (take (8 * s.limit) m.table) (table_bytes s.limit (rows_now st)) in
    let log : Bool = log1 && log2 in
    let table : Bool = table1 && table2 in
    let index = same (with_tree s.order (keys_of st) m.index) m.index in
    let files = files_audited st 0 (files_of st) in
    let cap = capacity_of s.limit m in
    let entries = drop s.files (take cap m.catalogue) in
    let h5 = and_left (sound st && log && table && index && files) (entries_zero entries) h in
    let h4 = and_left (sound st && log && table && index) files h5 in
    let h3 = and_left (sound st && log && table) index h4 in
    let h2 = and_left (sound st && log) table h3 in
    let logs = and_right (sound st) log h2 in
    let tables = and_right (sound st && log) table h3 in
    let q = limits_of_sound st (and_left (sound st) log h2) in
    let front : length (take cap m.catalogue) ≡ cap = length-take-le cap m.catalogue (capacity_entries s.limit (length m.catalogue) (length m.areas)) in
    let long : length entries ≡ cap - s.files = length-drop s.files (take cap m.catalogue) ∙ rw front in
    record {
      limits = q.0;
      header_is = same_true _ _ (and_right none bytes q.1);
      log_legal = and_left log1 log2 logs;
      last_is = eqb-true _ _ (and_right log1 log2 logs);
      live_is = eqb-true _ _ (and_left table1 table2 tables);
      table_is = same_true _ _ (and_right table1 table2 tables);
      index_is = same_true _ _ (and_right (sound st && log && table) index h4);
      files_are = files_of_test st 0 (files_of st) (and_right (sound st && log && table && index) files h5);
      rest_is = zero_entries entries (and_right (sound st && log && table && index && files) (entries_zero entries) h) ∙ ap (λ (n : ℕ). replicate n no_entry) long;
    }

module _ (st : State) (f : AuditedFacts st) where
  -- at most R rows are live
  pub live_few : st.numbers.live ≤ st.numbers.limit
  live_few = rw f.live_is (timeslice_rows st.numbers.limit (log_of st) f.log_legal st.numbers.last)

  -- no record, no last time
  pub last_none : st.numbers.records ≡ 0 → st.numbers.last ≡ 0
  unfolding records last_from
  last_none e = f.last_is ∙ ap (λ (n : ℕ). last_time (records_of st.memory.log n)) e

  pub header_is_true : is_header st.numbers st.memory.log ≡ true
  unfolding is_header
  header_is_true = and_both (by (eqb st.numbers.records 0) refl) (same_of_equal _ _ f.header_is)
    where
      by : (b : Bool) → eqb st.numbers.records 0 ≡ b → (not b || eqb st.numbers.last 0) ≡ true
      by true e = eq-eqb _ _ (last_none (eqb-true _ _ e))
      by false e = refl

  pub sound_of_facts : sound st ≡ true
  unfolding fits fits_but_index numbers_in_range order_in_range page_size_in_range row_limit_in_range records_in_range log_long index_long table_long
  sound_of_facts =
      let l = f.limits in
      rw (
        le-leb _ _ l.order_low,
        le-leb _ _ l.order_high,
        le-leb _ _ l.page_low,
        le-leb _ _ l.page_high,
        le-leb _ _ l.limit_low,
        le-leb _ _ l.limit_high,
        le-leb _ _ l.records_few,
        le-leb _ _ l.long_log,
        header_is_true,
        le-leb _ _ l.long_table,
        le-leb _ _ live_few,
        le-leb _ _ l.files_few,
        le-leb _ _ l.long_index,
      )

  pub audited_of_facts : Audited st
  unfolding audit_of log_audited table_audited index_audited rest_audited
  audited_of_facts =
      and_both
      (and_both
      (and_both
      (and_both (and_both sound_of_facts (and_both f.log_legal (eq-eqb _ _ f.last_is)))
      (and_both (eq-eqb _ _ f.live_is) (same_of_equal _ _ f.table_is)))
      (same_of_equal _ _ f.index_is))
      (test_of_files st 0 (files_of st) f.files_are))
      (rw f.rest_is (entries_zero_lem (capacity_of st.numbers.limit st.memory - st.numbers.files)))

pub audited_sound : (st : State) → Audited st → sound st ≡ true
audited_sound st h = sound_of_facts st (audited_facts st h)
