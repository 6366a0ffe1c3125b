-- More files, no more requests (02, wish 9), of what table and view answer: after any two lists of calls that leave one log, and of calls
-- that code makes. Assumes nothing.
use Prim.Native.Nat.{ℕ, ◌≤◌}
use mathlib.Core.Path.{◌≡◌, refl, ap, ◌∙◌, subst}
use Rattle.model.specs.declared.TableSaid.{TableSaid}
use Rattle.model.specs.Memory.{State}
use Rattle.model.specs.Outset.{outset_for}
use Rattle.model.specs.Queries.{answered_time, Written, table_of, Viewed, view_of}
use Rattle.model.specs.Facts.{InOrder}
use Rattle.model.specs.Calls.{Call, Said, written, viewed, answer_of}
use Rattle.model.specs.Chains.{Carried}
use Rattle.model.specs.Demands.{left, OneLog}
use Rattle.model.specs.MoreFiles.{HoldsEvery, Defined, AnsweredBy, Reports, NoMoreRequests, KeepingMore, CodeKeepingMore}
use Rattle.model.proofs.LateLaws.{answered_le}
use Rattle.model.proofs.MoreFileLaws.{no_farther}
use Rattle.claims.proofs.Lists.{stays_in_order}
use Rattle.claims.proofs.SecondDemands.{table_answered}
use Rattle.claims.proofs.SameLogs.{same-last, same-records}
use Rattle.claims.proofs.Outsets.{view_answered}
use Rattle.claims.proofs.Made.{carried_is, ran_from_is}

-- between the time answered and its outset
abbrev reported : State → ℕ → ℕ
reported st t = (outset_for st (answered_time st.numbers.last t)).between

no_more_reported : (more fewer : State) → InOrder more → InOrder fewer → OneLog more fewer → HoldsEvery more fewer → (t : ℕ) → reported more t ≤ reported fewer t
no_more_reported more fewer o o' one every t =
    let last = same-last more fewer o o' one in
    subst (λ (n : ℕ). reported more t ≤ n) (ap (λ (l : ℕ). (outset_for fewer (answered_time l t)).between) last)
    (no_farther more fewer (same-records more fewer o o' one) last every (answered_time more.numbers.last t) (answered_le more.numbers.last t))

-- ---- what table and view say

written_is : {x y : Written TableSaid} → written x ≡ written y → x ≡ y
written_is e = cc

viewed_is : {x y : Viewed} → viewed x ≡ viewed y → x ≡ y
viewed_is e = cc

-- by calls that answer what their definitions give
module _ (Answered : State → Call → Said → Type 0) (defined : (st : State) → InOrder st → (c : Call) (said : Said) → Answered st c said → said ≡ answer_of st c) where
  reports : (st : State) (t : ℕ) → InOrder st → Reports Answered st t (reported st t)
  unfolding answer_of
  reports st t o =
      record {
        tables = λ out table l k.
            let is : table ≡ table_of st t out = written_is (defined st o (Call.table t out) (written table) k) in
            record { said = _; answered = ap (λ (w : Written TableSaid). w.outcome) is ∙ table_answered st t out o.audited l; is = refl };
        views = λ view k.
            let is : view ≡ view_of st t = viewed_is (defined st o (Call.view t) (viewed view) k) in
            record { said = _; answered = ap (λ (v : Viewed). v.outcome) (is ∙ view_answered st t o.audited); is = refl };
      }

  no-more-requests : (more fewer : State) → InOrder more → InOrder fewer → OneLog more fewer → HoldsEvery more fewer → (t : ℕ) → NoMoreRequests Answered more fewer t
  no-more-requests more fewer o o' one every t =
      record {
        here = reported more t;
        there = reported fewer t;
        reported = reports more t o;
        reported' = reports fewer t o';
        no_more = no_more_reported more fewer o o' one every t;
      }

-- ---- the theorems

pub keeping_more : KeepingMore
keeping_more s s' cs cs' sf sf' cf cf' e e' =
    no-more-requests Defined (λ st o c said k. k) (left s cs) (left s' cs') (stays_in_order s cs sf cf e) (stays_in_order s' cs' sf' cf' e')

pub code_keeping_more : CodeKeepingMore
code_keeping_more s s' cs cs' st st' sf sf' cf cf' r r' =
    no-more-requests (AnsweredBy Carried) (λ st o c said k. (carried_is o.audited k.made).0) st st' (ran_from_is sf cf r).1 (ran_from_is sf' cf' r').1
