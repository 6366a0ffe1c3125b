-- Two states in order with one log have the same numbers of that log, the same records and so the same tables, whichever count
-- files they hold (demand 3). Assumes nothing.
use Prim.Native.Nat.{◌+◌, ◌*◌, ◌≤◌}
use mathlib.Core.Path.{◌≡◌, sym, ap, ◌∙◌}
use native.Mathlib.Omega.{arith}
use lib.ListN.{length, drop}
use Rattle.codec.proofs.PartLaws.{part_of_take}
use Rattle.model.specs.Records.{records_of}
use Rattle.model.specs.Memory.{State, log_of}
use Rattle.model.specs.Queries.{answered_time, rows_at, table_said}
use Rattle.model.specs.Facts.{InOrder}
use Rattle.model.specs.Demands.{OneLog, OneTable}
use Rattle.model.proofs.AuditLaws.{audited_facts}
use Rattle.model.proofs.LateLaws.{rows_as_asked}
use Rattle.logs.specs.Headers.{HeaderReads}
use Rattle.logs.proofs.HeaderLaws.{header_read, header-fits_of_passable}
use Rattle.logs.proofs.RecordLists.{records-front}
use Rattle.claims.proofs.SecondDemands.{table_answered, table_stands}

-- the log's header reads as the numbers of either state
module _ (st other : State) (o : InOrder st) (o' : InOrder other) (one : OneLog st other) where
  reads : HeaderReads st.numbers st.memory.log
  reads = header_read st.numbers st.memory.log (header-fits_of_passable st.numbers o.passable) (audited_facts st o.audited).header_is

  reads_other : HeaderReads other.numbers st.memory.log
  reads_other =
      header_read other.numbers st.memory.log (header-fits_of_passable other.numbers o'.passable)
      (part_of_take 0 24 (24 + 24 * st.numbers.records) st.memory.log other.memory.log (omega arith) one.same_bytes
      ∙ (audited_facts other o'.audited).header_is)

  pub same_limit : st.numbers.limit ≡ other.numbers.limit
  same_limit = sym reads.limit_is ∙ reads_other.limit_is

  pub same-last : st.numbers.last ≡ other.numbers.last
  same-last = sym reads.last_is ∙ reads_other.last_is

  pub same-records : log_of st ≡ log_of other
  same-records =
      let n = st.numbers.records in
      records-front (drop 24 st.memory.log) (drop 24 other.memory.log) n
      (part_of_take 24 (24 * n) (24 + 24 * n) st.memory.log other.memory.log (omega arith) one.same_bytes)
      ∙ ap (records_of other.memory.log) one.same_count

  pub one_table : OneTable st other
  one_table t out out' l l' =
      let R = st.numbers.limit in
      let limits : R ≡ other.numbers.limit = same_limit in
      let long : 8 * other.numbers.limit ≤ length out' = omega arith in
      let rows : rows_at st t ≡ rows_at other t = rw same-records in
      let mine = rows_as_asked st (audited_facts st o.audited) t in
      let theirs = rows_as_asked other (audited_facts other o'.audited) t in
      record {
        said = table_said st (answered_time st.numbers.last t);
        said' = table_said other (answered_time other.numbers.last t);
        answered = table_answered st t out o.audited l;
        answered' = table_answered other t out' o'.audited long;
        same_rows = ap length (mine ∙ rows ∙ sym theirs);
        same_bytes = table_stands st t out o.audited l ∙ rw (rows, limits) (sym (table_stands other t out' o'.audited long));
      }
