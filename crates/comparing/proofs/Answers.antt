-- The promise of a net change, from the answers to the questions and what the code says on any memory: one law for each return.
-- Assumes nothing.
use Prim.Native.Nat.{ℕ, suc, ◌*◌, ◌-◌, ◌≤◌, ◌<◌}
use mathlib.Core.Path.{◌≡◌, refl, sym, ap, ◌∙◌}
use mathlib.Core.Logic.{◌⊎◌, inl, inr}
use mathlib.Core.List.{List, ◌++◌}
use mathlib.Core.Bool.{Bool, true, false, ◌&&◌}
use lib.ListN.{length, drop}
use lib.Dec.{leb}
use borrow.Author.Tests.{le-leb, lt-leb}
use Rattle.codec.specs.LittleEndian.{AreBytes}
use Rattle.codec.specs.Parts.{part, zeros}
use Rattle.model.specs.Answers.{refuses, answers, first_no}
use Rattle.model.specs.Memory.{State, log_of, sound}
use Rattle.model.specs.Rows.{rows_bytes, table_bytes}
use Rattle.model.specs.NetChange.{net_change, net_change_bytes, changes_bytes}
use Rattle.model.specs.Audit.{Audited}
use Rattle.model.specs.Queries.{answered_time, rows_at, net_of, net_questions}
use Rattle.model.specs.Promises.{is_refused, refused_number, IfAnswered, NetChangePromise}
use Rattle.model.proofs.AuditLaws.{audited_facts}
use Rattle.model.proofs.PromiseLaws.{none_refused, not_refused, beyond_same}
use Rattle.model.proofs.TimeLaws.{timeslice_rows}
use Rattle.catalogue.specs.declared.Candidates.{Candidates}
use Rattle.catalogue.specs.Candidates.{candidates_in}
use Rattle.netting.specs.Merge.{Merges}
use Rattle.tables.proofs.LentFronts.{front_back, lent_beyond}
use Rattle.tables.proofs.Answers.{candidates_at}
use Rattle.comparing.specs.declared.Both.{Both}
use Rattle.comparing.specs.Both.{BothWorkedOut}
use Rattle.comparing.proofs.Workspace.{first_rows, second_rows, rows_of_time}

module _ (st : State) (a b : ℕ) (out work : List ℕ) where
  -- ---- refusals

  net-refused : (k : ℕ) → first_no (net_questions st out work) ≡ suc k → NetChangePromise st a b out work (refuses (suc k)) out work
  unfolding net_of is_refused refused_number IfAnswered
  net-refused k e =
      record {
        asked = sym e;
        refused = λ f. (refl, refl);
        entries_few = tt;
        output_framed = beyond_same _ out;
        workspace_framed = beyond_same _ work;
        audited = λ ok. rw e;
      }

  pub net_header : sound st ≡ false → NetChangePromise st a b out work (refuses 1) out work
  unfolding first_no
  net_header q = net-refused 0 (rw q)

  -- output or workspace
  pub net_short : sound st ≡ true → (length out < 24 * st.numbers.limit) ⊎ (length work < 16 * st.numbers.limit) → NetChangePromise st a b out work (refuses 13) out work
  unfolding first_no
  net_short q (inl short) = net-refused 12 (rw (q, lt-leb _ _ short))
  net_short q (inr short) = net-refused 12 (rw (q, lt-leb _ _ short, neither (leb (24 * st.numbers.limit) (length out))))
    where
      neither : (enough : Bool) → (enough && false) ≡ false
      neither true = refl
      neither false = refl

  -- ---- the answer

  module _ (first second : Candidates) (n : Both) (k from to : ℕ) (ws ys : List ℕ) (first-time : from ≡ answered_time st.numbers.last a) (second-time : to ≡ answered_time st.numbers.last b)
      (lw : length ws ≡ 16 * st.numbers.limit) (ly : length ys ≡ 24 * st.numbers.limit)
      (known : AreBytes (drop 24 st.memory.log)) (has_first : first ≡ candidates_in st.numbers a st.memory.catalogue) (has-second : second ≡ candidates_in st.numbers b st.memory.catalogue)
      (both : BothWorkedOut st.numbers st.memory.log st.memory.index st.memory.table st.memory.areas first second from to n ws)
      (merged : Merges (part 0 (8 * n.first) (ws ++ drop (16 * st.numbers.limit) work)) (part (8 * st.numbers.limit) (8 * n.second) (ws ++ drop (16 * st.numbers.limit) work)) k ys) where
    -- on audited memory the workspace is the two tables
    worked : Audited st → (n ≡ record { first = length (rows_at st from); second = length (rows_at st to) })
        × (ws ≡ table_bytes st.numbers.limit (rows_at st from) ++ table_bytes st.numbers.limit (rows_at st to))
    worked ok = both.on st.memory.catalogue (candidates_at st a first from first-time has_first) (candidates_at st b second to second-time has-second) ok

    -- on audited memory the rows merged are those of the two tables
    merged-rows : Audited st → (k ≡ length (net_change (rows_at st from) (rows_at st to))) × (ys ≡ net_change_bytes st.numbers.limit (net_change (rows_at st from) (rows_at st to)))
    unfolding net_change_bytes
    merged-rows ok =
        let R = st.numbers.limit in
        let A = rows_at st from in
        let B = rows_at st to in
        let few : length A ≤ R = timeslice_rows R (log_of st) (audited_facts st ok).log_legal from in
        let is = worked ok in
        let before : part 0 (8 * n.first) (ws ++ drop (16 * R) work) ≡ rows_bytes A = rw (is.0, is.1) (first_rows R A B _) in
        let after : part (8 * R) (8 * n.second) (ws ++ drop (16 * R) work) ≡ rows_bytes B = rw (is.0, is.1) (second_rows R A B _ few) in
        let m = merged.on A B (rows_of_time st from known before) (rows_of_time st to known after) in
        (m.0, m.1 ∙ ap (λ (l : ℕ). changes_bytes (net_change A B) ++ zeros (l - 12 * length (net_change A B))) ly)

    pub net_answers : sound st ≡ true → 24 * st.numbers.limit ≤ length out → 16 * st.numbers.limit ≤ length work → k ≤ 2 * st.numbers.limit
        → NetChangePromise st a b out work (answers k) (ys ++ drop (24 * st.numbers.limit) out) (ws ++ drop (16 * st.numbers.limit) work)
    unfolding net_of first_no is_refused IfAnswered
    net_answers q l m few =
        record {
          asked = none_refused (net_questions st out work) k (rw (q, le-leb _ _ l, le-leb _ _ m));
          refused = λ e. not_refused e;
          entries_few = few;
          output_framed = lent_beyond _ out ys l ly;
          workspace_framed = lent_beyond _ work ws m lw;
          audited = λ ok.
              let is = worked ok in
              let r = merged-rows ok in
              rw (← first-time, ← second-time, front_back (24 * st.numbers.limit) out ys ly, front_back (16 * st.numbers.limit) work ws lw, q, le-leb _ _ l, le-leb _ _ m, r.0, r.1, is.1);
        }
