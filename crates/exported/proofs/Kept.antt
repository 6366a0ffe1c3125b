-- The theorems over lists of calls (crate claims), of lists of the exported calls: what is read in their answers is what the
-- definitions give, and demands 2 and 3 hold of it. Assumes nothing.
use Prim.Native.Nat.{ℕ}
use mathlib.Core.List.{List}
use Rattle.model.specs.Memory.{State}
use Rattle.model.specs.Calls.{Call, Said}
use Rattle.model.specs.Chains.{Carried, Ran}
use Rattle.model.specs.Demands.{AnswersOf, KeepsBy, SameTablesBy}
use Rattle.model.specs.MoreFiles.{AnsweredBy, Reports, KeepingMoreBy}
use Rattle.model.specs.Deletions.{LeftBy, OrderOfDeletionsBy}
use Rattle.model.specs.LateTimes.{OnlyKeepRefusedBy12}
use Rattle.model.proofs.LateKeeps.{only_keep_refused_by-12}
use Rattle.claims.proofs.Made.{code_keeps, code_same_tables}
use Rattle.claims.proofs.KeepingMore.{code_keeping_more}
use Rattle.claims.proofs.Deletions.{code_order_of_deletions}
use Rattle.exported.specs.Calling.{Exported, ExportedRan, ExportedFrom}
use Rattle.exported.proofs.Ties.{exported_carried, exported_ran, exported_ran_from}

answers_of : (st : State) → AnswersOf Carried st → AnswersOf Exported st
answers_of st a =
    record {
      each = λ c said st' k. a.each c said st' (exported_carried k);
      positions = λ t o st' k. a.positions t o st' (exported_carried k);
      tables = λ t out table st' l k. a.tables t out table st' l (exported_carried k);
      views = λ t view st' k. a.views t view st' (exported_carried k);
      net_changes = λ x y out work net st' l i k. a.net_changes x y out work net st' l i (exported_carried k);
      units = λ t o st' k. a.units t o st' (exported_carried k);
      differences = λ x y o st' k. a.differences x y o st' (exported_carried k);
    }

pub exported_keeps : KeepsBy ExportedFrom Exported
exported_keeps s cs st sf cf r =
    let h = code_keeps s cs st sf cf (exported_ran_from r) in
    record { is_run = h.is_run; audited = h.audited; second = h.second; third = h.third; answered = answers_of st h.answered; files = h.files }

pub exported_same_tables : SameTablesBy ExportedFrom Exported
exported_same_tables s s' cs cs' st st' sf sf' cf cf' r r' one t out out' x y z z' l l' k k' =
    code_same_tables s s' cs cs' st st' sf sf' cf cf' (exported_ran_from r) (exported_ran_from r') one t out out' x y z z' l l' (exported_carried k) (exported_carried k')

pub exported_keeping_more : KeepingMoreBy ExportedFrom Exported
exported_keeping_more s s' cs cs' st st' sf sf' cf cf' r r' one every t =
    let h = code_keeping_more s s' cs cs' st st' sf sf' cf cf' (exported_ran_from r) (exported_ran_from r') one every t in
    record { here = h.here; there = h.there; reported = reports h.reported; reported' = reports h.reported'; no_more = h.no_more }
  where
    made : {st : State} {c : Call} {said : Said} → AnsweredBy Exported st c said → AnsweredBy Carried st c said
    made k = record { after = k.after; made = exported_carried k.made }

    reports : {st : State} {n : ℕ} → Reports (AnsweredBy Carried) st t n → Reports (AnsweredBy Exported) st t n
    reports r = record { tables = λ out table l k. r.tables out table l (made k); views = λ view k. r.views view (made k) }

pub exported_order_of_deletions : OrderOfDeletionsBy ExportedFrom ExportedRan
exported_order_of_deletions s cs st sf cf r =
    let h = code_order_of_deletions s cs st sf cf (exported_ran_from r) in
    record {
      same_go = λ ds es x y l m. h.same_go ds es x y (by_code l) (by_code m);
      any_order = λ ds es x y l m. h.any_order ds es x y (by_code l) (by_code m);
      no_keep = λ ds es x y l m. h.no_keep ds es x y (by_code l) (by_code m);
    }
  where
    by_code : {Such : Call → Type 0} {ds : List Call} {x : State} → LeftBy Such (ExportedRan st) ds x → LeftBy Such (Ran st) ds x
    by_code l = record { fit = l.fit; each = l.each; leaves = exported_ran l.leaves }

-- on any memory
pub exported_only_keep_refused_by-12 : OnlyKeepRefusedBy12 Exported
exported_only_keep_refused_by-12 st c said st' k = only_keep_refused_by-12 st c said st' (exported_carried k)
