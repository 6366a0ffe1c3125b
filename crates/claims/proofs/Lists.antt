-- After every list of calls, refused ones included, from every accepted start: the audit passes the state, and the second
-- demand holds. Assumes nothing.
use mathlib.Core.List.{List, [], ◌∷◌}
use Rattle.model.specs.Memory.{State}
use Rattle.model.specs.Calls.{Call, CallFits, AllFit, step, run, Reachable}
use Rattle.model.specs.Demands.{AfterEveryList, StaysAudited, SecondDemand}
use Rattle.model.specs.Facts.{InOrder}
use Rattle.claims.proofs.Opened.{start_audited}
use Rattle.claims.proofs.Changed.{insert_audited, delete_audited, update_audited}
use Rattle.claims.proofs.Kept.{keep_audited, drop_audited, drop-marked_audited}
use Rattle.claims.proofs.SecondDemands.{demand_two}

-- one call, accepted or refused
pub step_in_order : (st : State) (c : Call) → CallFits c → InOrder st → InOrder (step st c)
unfolding step
step_in_order st (Call.insert t a c) f o = insert_audited st t a c o f
step_in_order st (Call.delete t a) f o = delete_audited st t a o f
step_in_order st (Call.update t a c) f o = update_audited st t a c o f
step_in_order st (Call.position t) f o = o
step_in_order st (Call.table t out) f o = o
step_in_order st (Call.view t) f o = o
step_in_order st (Call.net_change a b out work) f o = o
step_in_order st (Call.units t) f o = o
step_in_order st (Call.difference a b) f o = o
step_in_order st (Call.keep t k) f o = keep_audited st t k o
step_in_order st (Call.drop t) f o = drop_audited st t o
step_in_order st (Call.drop_marked k) f o = drop-marked_audited st k o
step_in_order st Call.audit f o = o

pub run_in_order : (st : State) (cs : List Call) → AllFit cs → InOrder st → InOrder (run st cs)
unfolding run AllFit
run_in_order st [] f o = o
run_in_order st (c ∷ cs) f o = run_in_order (step st c) cs f.1 (step_in_order st c f.0 o)

-- ---- the theorems

pub stays_in_order : AfterEveryList (λ st. InOrder st)
stays_in_order s cs sf cf e = run_in_order _ cs cf (start_audited s sf e)

pub stays_audited : StaysAudited
stays_audited s cs sf cf e = (stays_in_order s cs sf cf e).audited

pub second_demand : SecondDemand
second_demand s cs sf cf e = demand_two _ (stays_in_order s cs sf cf e)

-- ---- the states that accepted calls leave

pub reachable_in_order : {st : State} → Reachable st → InOrder st
reachable_in_order (Reachable.started s f e) = start_audited s f e
reachable_in_order (Reachable.inserted t a c r f e) = insert_audited _ t a c (reachable_in_order r) f
reachable_in_order (Reachable.deleted t a r f e) = delete_audited _ t a (reachable_in_order r) f
reachable_in_order (Reachable.updated t a c r f e) = update_audited _ t a c (reachable_in_order r) f
reachable_in_order (Reachable.kept t k r f e) = keep_audited _ t k (reachable_in_order r)
reachable_in_order (Reachable.dropped t r f e) = drop_audited _ t (reachable_in_order r)
reachable_in_order (Reachable.marked_dropped k n r f e) = drop-marked_audited _ k (reachable_in_order r)
