-- The promises of position, table and view, from the answers to the questions and what the code says on any memory: one law
-- for each return. Assumes nothing.
use Prim.Native.Nat.{ℕ, ◌*◌, ◌≤◌, ◌<◌, min}
use mathlib.Core.Path.{◌≡◌, refl, sym, ap, ◌∙◌}
use mathlib.Core.Logic.{◌⊎◌}
use mathlib.Core.List.{List, [], ◌∷◌, ◌++◌}
use mathlib.Core.Bool.{true, false}
use native.Mathlib.Omega.{arith}
use lib.ListN.{length, take, drop}
use lib.Dec.{leb}
use borrow.Author.Tests.{le-leb, lt-leb}
use Rattle.model.specs.declared.Numbers.{Numbers}
use Rattle.model.specs.declared.Position.{Position}
use Rattle.model.specs.declared.TableSaid.{TableSaid}
use Rattle.model.specs.declared.OutsetSaid.{OutsetSaid}
use Rattle.model.specs.Answers.{refuses, answers, question, first_no}
use Rattle.model.specs.Memory.{State, sound, standing}
use Rattle.model.specs.Outset.{outset_for}
use Rattle.model.specs.Queries.{answered_time, position_of, table_questions, table_of, view_of, rows_part}
use Rattle.model.specs.Promises.{is_refused, IfAnswered, PositionPromise, TablePromise, ViewPromise}
use Rattle.model.proofs.AuditLaws.{audited_facts}
use Rattle.model.proofs.LateLaws.{answered_le}
use Rattle.model.proofs.PromiseLaws.{unsound_refused, next_refused, none_refused, not_refused, beyond_same}
use Rattle.pages.specs.Paged.{Indexed, PositionIs}
use Rattle.catalogue.specs.declared.Candidates.{Candidates}
use Rattle.catalogue.specs.Candidates.{candidates_in}
use Rattle.catalogue.proofs.CandidateLaws.{candidates_answered}
use Rattle.limits.specs.Fit.{Fit}
use Rattle.outsets.specs.declared.Used.{Used}
use Rattle.tables.specs.Parts.{lent}
use Rattle.outsets.specs.Used.{NearestIs}
use Rattle.tables.specs.Ways.{Ready, WorkedOut}
use Rattle.tables.proofs.LentFronts.{front_back, lent_beyond}
use Rattle.tables.proofs.HeldParts.{candidate-whole}
use Rattle.tables.proofs.Chosen.{Holds, is_position, chosen_of, chosen_holds}
use Rattle.tables.proofs.Ways.{rows_part-lent}

module _ (st : State) (t : ℕ) where
  -- ---- position

  pub position-header : sound st ≡ false → PositionPromise st t (refuses 1)
  unfolding position_of first_no
  position-header q = record { asked = unsound_refused Position st [] q; audited = λ a. rw q }

  pub position_answers : (p : Position) (at : ℕ) → sound st ≡ true → at ≡ answered_time st.numbers.last t
      → PositionIs st.numbers at st.memory.log st.memory.index p → PositionPromise st t (answers p)
  unfolding position_of first_no
  position_answers p at q e is =
      record { asked = none_refused (standing st) p (rw q); audited = λ a. rw (q, ← e) (ap answers (is_position st (audited_facts st a) is)) }

  -- ---- the candidates

  -- those for the time asked for are those for the time answered
  pub candidates_at : (c : Candidates) (at : ℕ) → at ≡ answered_time st.numbers.last t → c ≡ candidates_in st.numbers t st.memory.catalogue
      → c ≡ candidates_in st.numbers at st.memory.catalogue
  candidates_at c at e is = is ∙ rw e (sym (candidates_answered st.numbers t st.memory.catalogue))

-- candidates of a catalogue say how many entries it has
pub lent_is : {c d : Candidates} → c ≡ d → d.lent ≡ c.lent
lent_is e = sym (ap (λ (x : Candidates). x.lent) e)

-- ---- what question 1 tells

pub indexed_of : {s : Numbers} {log index table entries areas : ℕ} → Fit s log index table entries areas → Indexed s.order s.page s.records index
indexed_of f =
    let r = f.in_range in
    record {
      order_low = r.order_low;
      order_high = r.order_high;
      page_low = r.page_low;
      page_high = r.page_high;
      records_few = r.records_few;
      long = f.long_index;
    }

pub ready_of : {s : Numbers} {log index table entries areas t out : ℕ} → Fit s log index table entries areas → t ≤ s.last → out ≡ 8 * s.limit → Ready s log index t out
ready_of f h e =
    record {
      indexed = indexed_of f;
      limit_high = f.in_range.limit_high;
      long_log = f.long_log;
      held = h;
      out_is = e;
    }

-- ---- table

module _ (st : State) (t : ℕ) (out : List ℕ) where
  pub table-header : sound st ≡ false → TablePromise st t out (refuses 1) out
  unfolding table_of first_no is_refused IfAnswered
  table-header q =
      record { asked = unsound_refused TableSaid st (question 13 (leb (8 * st.numbers.limit) (length out)) ∷ []) q; refused = λ e. refl; rows_few = tt; framed = beyond_same _ out; audited = λ a. rw q }

  pub table-short : sound st ≡ true → length out < 8 * st.numbers.limit → TablePromise st t out (refuses 13) out
  unfolding table_of first_no is_refused IfAnswered
  table-short q g =
      record {
        asked = next_refused TableSaid st 13 _ [] q (lt-leb _ _ g);
        refused = λ e. refl;
        rows_few = tt;
        framed = beyond_same _ out;
        audited = λ a. rw (q, lt-leb _ _ g);
      }

  -- the part lent, of 8 × R bytes, came back as the bytes ys
  pub table_answers : (c : Candidates) (w : TableSaid) (at : ℕ) {ys : List ℕ} → sound st ≡ true → at ≡ answered_time st.numbers.last t → 8 * st.numbers.limit ≤ length out → length ys ≡ 8 * st.numbers.limit
      → c ≡ candidates_in st.numbers t st.memory.catalogue → w.rows ≤ st.numbers.limit
      → WorkedOut st.numbers st.memory.log st.memory.index st.memory.table st.memory.areas c at w ys
      → TablePromise st t out (answers w) (ys ++ drop (8 * st.numbers.limit) out)
  unfolding table_of first_no is_refused IfAnswered
  table_answers c w at {ys} q e room l has few worked =
      let size = 8 * st.numbers.limit in
      record {
        asked = none_refused (table_questions st out) _ (rw (q, le-leb _ _ room));
        refused = λ no. not_refused no;
        rows_few = few;
        framed = lent_beyond size out ys room l;
        audited = λ a.
            let is = worked.on st.memory.catalogue (candidates_at st t c at e has) a in
            rw (← e, front_back size out ys l, q, le-leb _ _ room, is.0, is.1);
      }

-- ---- view

module _ (st : State) (t : ℕ) where
  pub view_header : sound st ≡ false → ViewPromise st t (refuses 1) (take 0 st.memory.table)
  unfolding view_of first_no IfAnswered
  view_header q = record { asked = unsound_refused OutsetSaid st [] q; rows_few = tt; rows_whole = tt; audited = λ a. rw q }

  -- the rows of the outset used, cut to the limit
  pub view_answers : (c : Candidates) (u : Used) (at rows : ℕ) → sound st ≡ true → at ≡ answered_time st.numbers.last t → c ≡ candidates_in st.numbers t st.memory.catalogue
      → 8 * st.numbers.limit ≤ length st.memory.table → 8 * st.numbers.limit * st.numbers.files ≤ length st.memory.areas
      → NearestIs st.numbers c.early c.late at st.memory.log st.memory.index u → rows ≡ min u.chosen.outset.rows st.numbers.limit
      → let h = u.chosen.outset in ViewPromise st t (answers (record { place = h.place; rows = rows; side = u.chosen.side; between = u.chosen.between }))
      (rows_part st.numbers.limit (lent st.memory.areas st.memory.table) h.place rows)
  unfolding view_of first_no IfAnswered
  view_answers c u at rows q e has long-table long-areas near cut =
      let s = st.numbers in
      let h = u.chosen.outset in
      let one : (h ≡ (candidates_in s t st.memory.catalogue).early) ⊎ (h ≡ (candidates_in s t st.memory.catalogue).late) = rw has at near.one_of in
      record {
        asked = none_refused (standing st) _ (rw q);
        rows_few = omega arith;
        rows_whole = rw cut (candidate-whole s st.memory.areas st.memory.table long-table long-areas t st.memory.catalogue h one);
        audited = λ a.
            let f = audited_facts st a in
            let held : at ≤ s.last = omega (arith, e, answered_le s.last t) in
            let is : u.chosen ≡ outset_for st at = chosen_of st f at c u held (candidates_at st t c at e has) near in
            let holds : Holds st h = rw is (chosen_holds st f at held) in
            let all : rows ≡ h.rows = omega (arith, holds.rows_few) in
            rw (← e, q, all, rows_part-lent s.limit st.memory h.place h.rows, is);
      }
