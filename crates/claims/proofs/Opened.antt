-- An accepted opening leaves a state in order, with no count file; and what makes an opening accepted. Assumes nothing.
use Prim.Native.Nat.{ℕ, zero, suc, ◌+◌, ◌*◌, ◌^◌, ◌≤◌}
use mathlib.Core.Path.{◌≡◌, refl, ap, ◌∙◌}
use mathlib.Core.List.{[], ◌∷◌}
use mathlib.Core.Bool.{Bool, true, false, ◌&&◌}
use native.Mathlib.Omega.{arith}
use lib.ListN.{length, drop}
use lib.Dec.{leb, eqb}
use borrow.Author.Tests.{leb-true, eqb-true}
use Rattle.codec.proofs.Numbers.{number_lt, are_bytes-put, are_bytes-drop}
use Rattle.model.specs.Answers.{Outcome, answers, refuses, refuses_at, question, first_no}
use Rattle.model.specs.Settings.{order_in_range, page_size_in_range, row_limit_in_range, SettingsFit, records_in_range}
use Rattle.model.specs.Records.{header_order, header_page, header_limit, header_records, header_last}
use Rattle.model.specs.Rows.{table_bytes}
use Rattle.model.specs.Timeslice.{timeslice}
use Rattle.model.specs.Legal.{legal, last_time}
use Rattle.model.specs.Pages.{pages_of, page_times, index_need}
use Rattle.model.specs.Tree.{index_words}
use Rattle.model.specs.Memory.{Memory, State, state, Lendable, log_long, index_long, table_long}
use Rattle.model.specs.Starts.{open_questions, written_log, well_written, opened_memory, opened_numbers, open_of}
use Rattle.model.specs.Files.{files_in}
use Rattle.model.specs.Calls.{Start, StartFits, begun, Accepted}
use Rattle.model.proofs.Compare.{and_left, and_right}
use Rattle.model.proofs.SettingsLaws.{settings_fit}
use Rattle.model.proofs.PageLaws.{length_page_times}
use Rattle.model.proofs.RecordLaws.{length-records}
use Rattle.model.proofs.TimeLaws.{timeslice_rows}
use Rattle.tree.proofs.Written.{length-with}
use Rattle.logs.specs.Headers.{begins_log}
use Rattle.logs.proofs.Appends.{all_fit_records}
use Rattle.logs.proofs.HeaderLaws.{header_of_fields, begins_log_true}
use Rattle.rows.proofs.TableBytes.{are_bytes-table}
use Rattle.model.specs.Facts.{FilesAre, AuditedFacts, InOrder}
use Rattle.model.proofs.AuditLaws.{audited_of_facts}
use Rattle.claims.proofs.IndexWords.{below_with_tree, keys_below}
use Rattle.claims.proofs.Regions.{SameLengths, asked, table-front, table-length, tree_again, length-emptied, emptied_rest, emptied-fits}
use Rattle.claims.proofs.Started.{fresh-state, fresh_audited}

module _ (m : Memory) where
  -- the state that an accepted opening leaves
  abbrev pub opened : State
  opened = state (opened_numbers m) (opened_memory m)

  pub open_state : Accepted (open_of m) → ((first_no (open_questions m) ≡ 0) × (well_written m ≡ true)) × ((open_of m).state ≡ opened)
  unfolding open_of
  open_state e = by (first_no (open_questions m)) refl (well_written m) refl
    where
      by : (k : ℕ) → first_no (open_questions m) ≡ k → (b : Bool) → well_written m ≡ b → ((first_no (open_questions m) ≡ 0) × (well_written m ≡ true)) × ((open_of m).state ≡ opened)
      by zero q true w = ((q, w), rw (q, w))
      by zero q false w =
          let no : ◌≡◌ {A = Outcome Unit} (refuses_at 17 _) (answers tt) = rw (q, w) at e in
          let z : ◌≡◌ {A = ℕ} 0 1 = cc in
          absurd (omega arith)
      by (suc k) q b w =
          let no : ◌≡◌ {A = Outcome Unit} (refuses (suc k)) (answers tt) = rw q at e in
          let z : ◌≡◌ {A = ℕ} 0 1 = cc in
          absurd (omega arith)

  pub open_accepted : first_no (open_questions m) ≡ 0 → well_written m ≡ true → Accepted (open_of m)
  unfolding open_of
  open_accepted q w = rw (q, w)

  abbrev order : ℕ
  order = header_order m.log

  abbrev page : ℕ
  page = header_page m.log

  abbrev limit : ℕ
  limit = header_limit m.log

  abbrev count : ℕ
  count = header_records m.log

  -- room for the records that the header counts
  pub record OpenRoom : Type 0 where
    pub records_few : count ≤ 65536
    pub long_log : 24 + 24 * count ≤ length m.log
    pub long_index : index_need order page count ≤ length m.index
    pub long_table : 8 * limit ≤ length m.table

  module _ (q : first_no (open_questions m) ≡ 0) (w : well_written m ≡ true) (l : Lendable m) where
    abbrev space : Bool
    space = records_in_range count && log_long count (length m.log) && index_long order page count (length m.index) && table_long limit (length m.table)

    open-settings : (begins_log m.log ≡ true) × (SettingsFit order page limit × OpenRoom)
    unfolding records_in_range log_long index_long table_long
    open-settings =
        let a = asked 0 (begins_log m.log) (question 2 (order_in_range order) ∷ question 3 (page_size_in_range page) ∷ question 4 (row_limit_in_range limit) ∷ question 5 space ∷ []) q in
        let b = asked 1 (order_in_range order) (question 3 (page_size_in_range page) ∷ question 4 (row_limit_in_range limit) ∷ question 5 space ∷ []) a.1 in
        let c = asked 2 (page_size_in_range page) (question 4 (row_limit_in_range limit) ∷ question 5 space ∷ []) b.1 in
        let e = asked 3 (row_limit_in_range limit) (question 5 space ∷ []) c.1 in
        let f = (asked 4 space [] e.1).0 in
        let few = leb count 65536 in
        let log = leb (24 + 24 * count) (length m.log) in
        let index = leb (index_need order page count) (length m.index) in
        let table = leb (8 * limit) (length m.table) in
        let f3 = and_left (few && log && index) table f in
        let f2 = and_left (few && log) index f3 in (
          a.0,
          (
            settings_fit order page limit b.0 c.0 e.0,
            record {
              records_few = leb-true _ _ (and_left few log f2);
              long_log = leb-true _ _ (and_right few log f2);
              long_index = leb-true _ _ (and_right (few && log) index f3);
              long_table = leb-true _ _ (and_right (few && log && index) table f);
            },
          ),
        )

    ok : legal limit (written_log m) ≡ true
    unfolding well_written
    ok = and_left (legal limit (written_log m)) (eqb (header_last m.log) (last_time (written_log m))) w

    ends : header_last m.log ≡ last_time (written_log m)
    unfolding well_written
    ends = eqb-true _ _ (and_right (legal limit (written_log m)) (eqb (header_last m.log) (last_time (written_log m))) w)

    few-rows : length (timeslice (header_last m.log) (written_log m)) ≤ limit
    few-rows = timeslice_rows limit (written_log m) ok (header_last m.log)

    key_count : length (page_times page (written_log m)) ≡ pages_of page count
    key_count =
        let s = open-settings.1.0 in
        length_page_times page (omega (arith, s.page_low)) (written_log m) ∙ ap (pages_of page) (length-records (drop 24 m.log) count)

    key_room : index_words order (length (page_times page (written_log m))) ≤ length m.index
    key_room = rw key_count open-settings.1.1.long_index

    pub open_lengths : SameLengths m (opened_memory m)
    unfolding opened_memory
    open_lengths =
        let s = open-settings.1.0 in
        let r = open-settings.1.1 in
        record {
          log_same = refl;
          index_same = length-with order s.order_low (page_times page (written_log m)) m.index key_room;
          table_same = table-length limit (timeslice (header_last m.log) (written_log m)) m.table few-rows r.long_table;
          entries_same = length-emptied limit m;
          areas_same = refl;
        }

    open-facts : AuditedFacts opened
    unfolding opened_memory opened_numbers files_in FilesAre
    open-facts =
        let f = open-settings in
        let s = f.1.0 in
        let r = f.1.1 in
        let same = open_lengths in
        let b = begins_log_true m.log f.0 in
        let keys = page_times page (written_log m) in
        let rows = timeslice (header_last m.log) (written_log m) in
        record {
          limits = record {
            order_low = s.order_low;
            order_high = s.order_high;
            page_low = s.page_low;
            page_high = s.page_high;
            limit_low = s.limit_low;
            limit_high = s.limit_high;
            records_few = r.records_few;
            long_log = r.long_log;
            long_index = rw same.index_same r.long_index;
            long_table = rw same.table_same r.long_table;
            files_few = omega arith;
          };
          header_is = header_of_fields (opened_numbers m) m.log l.log_bytes b.0
              (record { length_is = b.1.0; kind_is = b.1.1; order_is = refl; page_is = refl; limit_is = refl; records_is = refl; last_is = refl });
          log_legal = ok;
          last_is = ends;
          live_is = refl;
          table_is = table-front limit rows m.table few-rows;
          index_is = tree_again order keys m.index s.order_low key_room;
          files_are = tt;
          rest_is = emptied_rest limit m (opened_memory m) refl refl;
        }

    open-in-order : InOrder opened
    unfolding opened_memory opened_numbers
    open-in-order =
        let s = open-settings.1.0 in
        let bytes = l.log_bytes in
        let rows = timeslice (header_last m.log) (written_log m) in
        record {
          audited = audited_of_facts opened open-facts;
          lendable = record {
            log_bytes = bytes;
            words_of_index = below_with_tree (2 ^ 64) (omega arith) order (page_times page (written_log m)) m.index
                (keys_below page 0 (written_log m) (all_fit_records (drop 24 m.log) count (are_bytes-drop 24 m.log bytes))) l.words_of_index;
            bytes_of_table = are_bytes-put m.table 0 (table_bytes limit rows) l.bytes_of_table (are_bytes-table limit rows);
            entry_times = λ i. ((emptied-fits limit m l).each i).time_fits;
            entry_rows = λ i. ((emptied-fits limit m l).each i).rows_fit;
            entry_marks = λ i. ((emptied-fits limit m l).each i).mark_fits;
            bytes_of_areas = l.bytes_of_areas;
          };
          passable = record {
            order_fits = number_lt 2 m.log 4 bytes;
            page_fits = number_lt 2 m.log 6 bytes;
            limit_fits = number_lt 4 m.log 8 bytes;
            records_fit = number_lt 4 m.log 12 bytes;
            last_fits = number_lt 8 m.log 16 bytes;
            live_fits = omega (arith, few-rows, s.limit_high);
            files_fit = omega arith;
          };
        }

  pub open_audited : Lendable m → Accepted (open_of m) → InOrder (open_of m).state
  open_audited l e =
      let a = open_state e in
      rw a.1 (open-in-order a.0.0 a.0.1 l)

-- ---- every start

pub start_audited : (s : Start) → StartFits s → Accepted (begun s) → InOrder (begun s).state
unfolding begun StartFits
start_audited (Start.fresh d N R m) f e = fresh_audited d N R m f e
start_audited (Start.opening m) f e = open_audited m f e

-- no count file is held at the start
pub start_files : (s : Start) → Accepted (begun s) → (begun s).state.numbers.files ≡ 0
unfolding begun opened_numbers
start_files (Start.fresh d N R m) e = ap (λ (st : State). st.numbers.files) (fresh-state d N R m e).1
start_files (Start.opening m) e = ap (λ (st : State). st.numbers.files) (open_state m e).1
