-- The second demand of a state in order: its tables are the report's timeslices, its index is the packed tree, and the
-- written log opens alike in other memory. Assumes nothing.
use Prim.Native.Nat.{ℕ, zero, suc, ◌+◌, ◌-◌, ◌*◌, ◌≤◌, ◌<◌}
use mathlib.Core.Path.{◌≡◌, sym, ap, ◌∙◌}
use mathlib.Core.List.{List, [], ◌∷◌}
use mathlib.Core.Bool.{true, ◌&&◌}
use native.Mathlib.Omega.{arith}
use native.Mathlib.Nat.{zero-mul, le_refl}
use lib.ListN.{length, take, drop}
use lib.Seq.{take-add}
use lib.Dec.{leb}
use borrow.Author.Tests.{le-leb, eq-eqb}
use Rattle.codec.proofs.PartLaws.{part_of_take}
use Rattle.model.specs.Answers.{answers, question, first_no}
use Rattle.model.specs.Settings.{order_in_range, page_size_in_range, row_limit_in_range, records_in_range}
use Rattle.model.specs.Records.{records_of, header_order, header_page, header_limit, header_records}
use Rattle.model.specs.Rows.{table_bytes}
use Rattle.model.specs.Numbering.{node_word}
use Rattle.model.specs.Tree.{tree_of, nodes_of, index_words, with_tree, Packed}
use Rattle.model.specs.Memory.{Memory, State, Lendable, log_of, rows_now, keys_of, sound, log_long, index_long, table_long}
use Rattle.model.specs.Starts.{open_questions, written_log, well_written, opened_memory, opened_numbers}
use Rattle.model.specs.Queries.{answered_time, table_questions, table_said, table_of, rows_at}
use Rattle.model.specs.Audit.{Audited}
use Rattle.model.specs.Demands.{TableIsTimeslice, HoldsLog, OpensAlike, DemandTwo}
use Rattle.model.proofs.LateLaws.{rows_as_asked}
use Rattle.model.proofs.ReportLaws.{asc_timeslice}
use Rattle.model.proofs.ReportedLaws.{has_iff_report}
use Rattle.tree.proofs.Packings.{tree_length}
use Rattle.tree.proofs.Written.{with_packed}
use Rattle.logs.specs.Headers.{begins_log, HeaderReads}
use Rattle.logs.proofs.HeaderLaws.{header_read, header-fits_of_passable}
use Rattle.logs.proofs.RecordLists.{records-front}
use Rattle.model.specs.Facts.{AuditedFacts, InOrder}
use Rattle.model.proofs.AuditLaws.{audited_facts, audited_sound}
use Rattle.claims.proofs.Regions.{answered, none-asked, table-front}
use Rattle.claims.proofs.FactLaws.{rows_few, key_count, index_packed}
use Rattle.claims.proofs.Opened.{open_state, open_accepted}

-- ---- tables

pub table_accepted : (st : State) (out : List ℕ) → Audited st → 8 * st.numbers.limit ≤ length out → first_no (table_questions st out) ≡ 0
table_accepted st out a l =
    let long = leb (8 * st.numbers.limit) (length out) in
    answered 0 (sound st) (question 13 long ∷ []) (audited_sound st a) (answered 12 long [] (le-leb _ _ l) none-asked)

module _ (st : State) (t : ℕ) (out : List ℕ) (a : Audited st) (l : 8 * st.numbers.limit ≤ length out) where
  pub table_answered : (table_of st t out).outcome ≡ answers (table_said st (answered_time st.numbers.last t))
  unfolding table_of
  table_answered = rw (table_accepted st out a l)

  -- the rows are those of the time asked
  pub table_stands : take (8 * st.numbers.limit) (table_of st t out).output ≡ table_bytes st.numbers.limit (rows_at st t)
  unfolding table_of
  table_stands =
      let f = audited_facts st a in
      rw (table_accepted st out a l, rows_as_asked st f t) (table-front st.numbers.limit (rows_at st t) out (rows_few st f t))

  pub table_is_timeslice : TableIsTimeslice st t (table_of st t out)
  table_is_timeslice =
      let f = audited_facts st a in
      record {
        said = table_said st (answered_time st.numbers.last t);
        rows = rows_at st t;
        answered = table_answered;
        counted = ap length (rows_as_asked st f t);
        stand = table_stands;
        ascending = asc_timeslice t (log_of st);
        rows_are = has_iff_report st.numbers.limit (log_of st) f.log_legal t;
      }

-- ---- the index

-- two indexes that hold one tree have the same nodes
pub packed_same : (d : ℕ) (two : 2 ≤ d) (keys xs ys : List ℕ) → Packed (node_word d) d keys xs → Packed (node_word d) d keys ys
    → take (index_words d (length keys)) xs ≡ take (index_words d (length keys)) ys
packed_same d two keys xs ys h g = by (nodes_of d (length keys)) (le_refl (nodes_of d (length keys)))
  where
    by : (n : ℕ) → n ≤ nodes_of d (length keys) → take (n * (d - 1)) xs ≡ take (n * (d - 1)) ys
    by zero l = rw zero-mul
    by (suc n) l =
        let e : suc n * (d - 1) ≡ n * (d - 1) + (d - 1) = omega arith in
        let here : n < length (tree_of d keys) = omega (arith, tree_length (node_word d) d two keys xs) in
        rw (e, take-add (n * (d - 1)) (d - 1) xs, take-add (n * (d - 1)) (d - 1) ys, by n (omega arith), h n here, g n here)

-- ---- the written log, opened in other memory

module _ (st : State) (o : InOrder st) where
  facts : AuditedFacts st
  facts = audited_facts st o.audited

  module _ (m : Memory) (l : Lendable m) (h : HoldsLog st m) where
    pub reads : HeaderReads st.numbers m.log
    reads =
        header_read st.numbers m.log (header-fits_of_passable st.numbers o.passable)
        (part_of_take 0 24 (24 + 24 * st.numbers.records) m.log st.memory.log (omega arith) h.log_is ∙ facts.header_is)

    pub same_log : written_log m ≡ log_of st
    same_log =
        let n = st.numbers.records in
        ap (records_of m.log) reads.records_is
        ∙ records-front (drop 24 m.log) (drop 24 st.memory.log) n (part_of_take 24 (24 * n) (24 + 24 * n) m.log st.memory.log (omega arith) h.log_is)

    pub reopen_asked : first_no (open_questions m) ≡ 0
    unfolding order_in_range page_size_in_range row_limit_in_range records_in_range log_long index_long table_long
    reopen_asked =
        let b = facts.limits in
        let d = header_order m.log in
        let N = header_page m.log in
        let R = header_limit m.log in
        let n = header_records m.log in
        let begins : begins_log m.log ≡ true = rw (le-leb 24 (length m.log) (omega (arith, h.long_log)), eq-eqb _ _ reads.length_is, eq-eqb _ _ reads.kind_is) in
        let order : order_in_range d ≡ true = rw (reads.order_is, le-leb _ _ b.order_low, le-leb _ _ b.order_high) in
        let page : page_size_in_range N ≡ true = rw (reads.page_is, le-leb _ _ b.page_low, le-leb _ _ b.page_high) in
        let limit : row_limit_in_range R ≡ true = rw (reads.limit_is, le-leb _ _ b.limit_low, le-leb _ _ b.limit_high) in
        let space : (records_in_range n && log_long n (length m.log) && index_long d N n (length m.index) && table_long R (length m.table)) ≡ true =
        rw (reads.order_is, reads.page_is, reads.limit_is, reads.records_is, le-leb _ _ b.records_few, le-leb _ _ h.long_log, le-leb _ _ h.long_index, le-leb _ _ h.long_table) in
        answered 0 _ _ begins (answered 1 _ _ order (answered 2 _ _ page (answered 3 _ _ limit (answered 4 _ [] space none-asked))))

    pub reopen_legal : well_written m ≡ true
    unfolding well_written
    reopen_legal = rw (same_log, reads.limit_is, reads.last_is, facts.log_legal) (eq-eqb _ _ facts.last_is)

    pub opens_alike : OpensAlike st m
    unfolding opened_memory opened_numbers
    opens_alike =
        let e = open_accepted m reopen_asked reopen_legal in
        let is = (open_state m e).1 in
        let b = facts.limits in
        let d = st.numbers.order in
        let R = st.numbers.limit in
        record {
          accepted = e;
          same_index =
              rw (is, same_log, reads.order_is, reads.page_is, ← key_count st facts)
              (packed_same d b.order_low (keys_of st) (with_tree d (keys_of st) m.index) st.memory.index
              (with_packed d b.order_low (keys_of st) m.index (rw (key_count st facts) h.long_index)) (index_packed st facts));
          same_live = rw (is, same_log, reads.last_is) (sym facts.live_is);
          one_and_the_same_table =
              rw (is, same_log, reads.limit_is, reads.last_is)
              (table-front R (rows_now st) m.table (rows_few st facts st.numbers.last) ∙ sym facts.table_is);
        }

-- ---- the demand

pub demand_two : (st : State) → InOrder st → DemandTwo st
demand_two st o = record { tables = λ t out. table_is_timeslice st t out o.audited; index = index_packed st (audited_facts st o.audited); reopened = λ m. opens_alike st o m }
