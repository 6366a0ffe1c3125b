-- The net change that a state in order answers (demand 3): it is accepted, its entries stand in the output, they lead from the one
-- table to the other, no list of fewer legal insertions and deletions does, and there is none exactly where the tables as
-- answered are the same. Assumes nothing.
use Prim.Native.Nat.{ℕ, ◌+◌, ◌-◌, ◌*◌, ◌≤◌}
use mathlib.Core.Path.{◌≡◌, sym, ap, ◌∙◌}
use mathlib.Core.List.{List, [], ◌++◌, append_assoc}
use native.Mathlib.Omega.{arith}
use lib.ListN.{length, drop}
use lib.Seq.{take_at}
use borrow.Author.Tests.{le-leb}
use Rattle.codec.specs.Parts.{zeros}
use Rattle.model.specs.declared.TableSaid.{TableSaid}
use Rattle.model.specs.Answers.{answers, first_no}
use Rattle.model.specs.Memory.{State, log_of}
use Rattle.model.specs.NetChange.{net_change, changes_bytes, net_change_bytes}
use Rattle.model.specs.Queries.{answered_time, table_said, table_of, rows_at, net_questions, net_of}
use Rattle.model.specs.Facts.{InOrder}
use Rattle.model.specs.Demands.{SameTable, NetChangeIs}
use Rattle.model.proofs.AuditLaws.{audited_facts, audited_sound}
use Rattle.model.proofs.Compare.{and_both}
use Rattle.model.proofs.LateLaws.{rows_as_asked}
use Rattle.model.proofs.ReportLaws.{asc_timeslice}
use Rattle.model.proofs.RowSets.{same_rows_true, same_rows_refl}
use Rattle.rows.proofs.TableBytes.{table-bytes_injective}
use Rattle.netting.specs.Entries.{changes_in}
use Rattle.netting.proofs.ChangeBytes.{length_net_bytes}
use Rattle.netting.proofs.Netting.{length_net_le, net_leads, net_fewest, net_empty_iff_equal}
use Rattle.netting.proofs.Reading.{changes-read, net_entries_fit}
use Rattle.claims.proofs.Regions.{answered, none-asked}
use Rattle.claims.proofs.FactLaws.{rows_few, rows_small}
use Rattle.claims.proofs.SecondDemands.{table_answered, table_stands}

-- ---- two tables as answered

said_of : {s s' : TableSaid} → answers s ≡ answers s' → s ≡ s'
said_of e = cc

-- they are the same exactly where their rows are
module _ (st : State) (o : InOrder st) (a b : ℕ)
    (x y : List ℕ) (l : 8 * st.numbers.limit ≤ length x) (k : 8 * st.numbers.limit ≤ length y) where
  pub same_of_rows : rows_at st a ≡ rows_at st b → SameTable st.numbers.limit (table_of st a x) (table_of st b y)
  same_of_rows e =
      let f = audited_facts st o.audited in
      record {
        said = table_said st (answered_time st.numbers.last a);
        said' = table_said st (answered_time st.numbers.last b);
        answered = table_answered st a x o.audited l;
        answered' = table_answered st b y o.audited k;
        same_rows = ap length (rows_as_asked st f a ∙ e ∙ sym (rows_as_asked st f b));
        same_bytes = table_stands st a x o.audited l ∙ rw e (sym (table_stands st b y o.audited k));
      }

  pub rows_of_same : SameTable st.numbers.limit (table_of st a x) (table_of st b y) → rows_at st a ≡ rows_at st b
  rows_of_same s =
      let f = audited_facts st o.audited in
      let first : table_said st (answered_time st.numbers.last a) ≡ s.said = said_of (sym (table_answered st a x o.audited l) ∙ s.answered) in
      let second : table_said st (answered_time st.numbers.last b) ≡ s.said' = said_of (sym (table_answered st b y o.audited k) ∙ s.answered') in
      let count : length (rows_at st a) ≡ length (rows_at st b) =
      sym (ap length (rows_as_asked st f a)) ∙ ap (λ (z : TableSaid). z.rows) first ∙ s.same_rows ∙ sym (ap (λ (z : TableSaid). z.rows) second)
      ∙ ap length (rows_as_asked st f b) in
      table-bytes_injective st.numbers.limit (rows_at st a) (rows_at st b) (rows_small st o.lendable a) (rows_small st o.lendable b) count
      (sym (table_stands st a x o.audited l) ∙ s.same_bytes ∙ table_stands st b y o.audited k)

-- ---- the net change

module _ (st : State) (o : InOrder st) (a b : ℕ) (out work : List ℕ) where
  pub net_accepted : 24 * st.numbers.limit ≤ length out → 16 * st.numbers.limit ≤ length work → first_no (net_questions st out work) ≡ 0
  net_accepted l k =
      let R = st.numbers.limit in
      answered 0 _ _ (audited_sound st o.audited) (answered 12 _ [] (and_both (le-leb (24 * R) (length out) l) (le-leb (16 * R) (length work) k)) none-asked)

  -- the entries fit the output
  pub net_fits : length (net_change (rows_at st a) (rows_at st b)) ≤ 2 * st.numbers.limit
  net_fits =
      let f = audited_facts st o.audited in
      omega (arith, length_net_le (rows_at st a) (rows_at st b), rows_few st f a, rows_few st f b)

  pub net_change_is : 24 * st.numbers.limit ≤ length out → 16 * st.numbers.limit ≤ length work → NetChangeIs st a b (net_of st a b out work)
  unfolding net_of
  net_change_is l k =
      let q = net_accepted l k in
      let f = audited_facts st o.audited in
      let from = rows_as_asked st f a in
      let to = rows_as_asked st f b in
      let R = st.numbers.limit in
      let A = rows_at st a in
      let B = rows_at st b in
      let up = asc_timeslice a (log_of st) in
      let up' = asc_timeslice b (log_of st) in
      let changes = net_change A B in
      record {
        entries = changes;
        answered = rw (q, from, to);
        stand = rw (q, from, to) (take_at (net_change_bytes R changes) (drop (0 + length (net_change_bytes R changes)) out) (24 * R) (length_net_bytes R changes net_fits));
        none_iff_same = λ x y i j. (
          (λ e. same_of_rows st o a b x y i j (same_rows_true A B ((net_empty_iff_equal A B up up').0 e))),
          λ s. (net_empty_iff_equal A B up up').1 (rw (rows_of_same st o a b x y i j s) (same_rows_refl B)),
        );
        leads_there = net_leads A B up up';
        fewest = net_fewest A B up up';
      }

  -- the entries can be read back from the output
  pub net_reads_back : 24 * st.numbers.limit ≤ length out → 16 * st.numbers.limit ≤ length work
      → let changes = net_change (rows_at st a) (rows_at st b) in changes_in (length changes) (net_of st a b out work).output ≡ changes
  unfolding net_of net_change_bytes
  net_reads_back l k =
      let q = net_accepted l k in
      let f = audited_facts st o.audited in
      let R = st.numbers.limit in
      let A = rows_at st a in
      let B = rows_at st b in
      let changes = net_change A B in
      let fit = net_entries_fit A B (asc_timeslice a (log_of st)) (asc_timeslice b (log_of st)) (rows_small st o.lendable a) (rows_small st o.lendable b) in
      rw (q, rows_as_asked st f a, rows_as_asked st f b, append_assoc (changes_bytes changes) (zeros (24 * R - 12 * length changes)) (drop (0 + length (net_change_bytes R changes)) out))
      (changes-read changes (zeros (24 * R - 12 * length changes) ++ drop (0 + length (net_change_bytes R changes)) out) fit)
