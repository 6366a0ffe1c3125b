-- Calls that are made (specs/Chains of model): each that keeps the promise of its contract answers and leaves what its
-- definition says, so a list of them leaves what `run` says, and demands 2 and 3 hold of it. Assumes nothing.
use Prim.Native.Nat.{ℕ}
use mathlib.Core.Path.{◌≡◌, refl, sym, ap, ◌∙◌, subst}
use mathlib.Core.List.{List}
use lib.IntN.{ℤ}
use Rattle.model.specs.declared.Position.{Position}
use Rattle.model.specs.declared.TableSaid.{TableSaid}
use Rattle.model.specs.Answers.{Outcome}
use Rattle.model.specs.Memory.{State}
use Rattle.model.specs.Starts.{Result, After, after}
use Rattle.model.specs.Queries.{Written, Viewed, Netted, table_of}
use Rattle.model.specs.Audit.{Audited}
use Rattle.model.specs.Units.{UnitsTell, DifferenceTells}
use Rattle.model.specs.Facts.{InOrder}
use Rattle.model.specs.Calls.{Start, StartFits, begun, Call, AllFit, Said, changed, positioned, written, viewed, netted, totalled, differed, cleared, audited, answer_of, step, run, Accepted}
use Rattle.model.specs.Chains.{Carried, Ran, RanFrom}
use Rattle.model.specs.Demands.{left, PositionTells, TableIsTimeslice, NetChangeIs, TableFromNearest, ViewIsNearest, AnswersOf, CodeKeeps, CodeSameTables}
use Rattle.claims.proofs.Opened.{start_audited}
use Rattle.claims.proofs.Lists.{step_in_order}
use Rattle.claims.proofs.SecondDemands.{demand_two}
use Rattle.claims.proofs.SameLogs.{one_table}
use Rattle.claims.proofs.ThirdDemands.{demand_three}
use Rattle.claims.proofs.Positions.{position_tells}
use Rattle.claims.proofs.Units.{units_tell, difference_tells}
use Rattle.claims.proofs.FilesHeld.{held_since_kept}

-- ---- one call

-- a call that may change the store
made : {A : Type 0} (said : Outcome A → Said) {o : Outcome A} {st' : State} {x : Result A} → after o st' ≡ x → (said o ≡ said x.outcome) × (st' ≡ x.state)
made said e = (ap (λ y. said y.outcome) e, ap (λ y. y.state) e)

pub carried_is : {st : State} {c : Call} {said : Said} {st' : State} → Audited st → Carried st c said st' → (said ≡ answer_of st c) × (st' ≡ step st c)
unfolding answer_of step
carried_is ok (Carried.insert t a c p) = made changed (p.audited ok)
carried_is ok (Carried.delete t a p) = made changed (p.audited ok)
carried_is ok (Carried.update t a c p) = made changed (p.audited ok)
carried_is ok (Carried.position t p) = (ap positioned (p.audited ok), refl)
carried_is ok (Carried.table t out p) = (ap written (p.audited ok), refl)
carried_is ok (Carried.view t p) = (ap viewed (p.audited ok), refl)
carried_is ok (Carried.net_change a b out work p) = (ap netted (p.audited ok), refl)
carried_is ok (Carried.units t p) = (ap totalled (p.audited ok), refl)
carried_is ok (Carried.difference a b p) = (ap differed (p.audited ok), refl)
carried_is ok (Carried.keep t k p) = made changed (p.audited ok)
carried_is ok (Carried.drop t e) = made changed e
carried_is ok (Carried.drop_marked k e) = made cleared e
carried_is ok (Carried.audit e) = (ap audited e, refl)

-- ---- calls one after the other

pub ran_is : {st : State} {cs : List Call} {st' : State} → AllFit cs → InOrder st → Ran st cs st' → (st' ≡ run st cs) × InOrder st'
unfolding run AllFit
ran_is f o Ran.none = (refl, o)
ran_is f o (Ran.next {st = st} {st' = st'} {c = c} {cs = cs} k r) =
    let e : st' ≡ step st c = (carried_is o.audited k).1 in
    let h = ran_is f.1 (subst (λ (x : State). InOrder x) (sym e) (step_in_order st c f.0 o)) r in
    (h.0 ∙ ap (λ (x : State). run x cs) e, h.1)

pub ran_from_is : {s : Start} {cs : List Call} {st : State} → StartFits s → AllFit cs → RanFrom s cs st → (st ≡ left s cs) × InOrder st
ran_from_is {s} {cs} {st} sf cf r =
    let ok : Accepted (begun s) = ap (λ (y : After). y.outcome) (sym r.accepted) in
    let at : r.first ≡ (begun s).state = ap (λ (y : After). y.state) r.accepted in
    let h = ran_is cf (subst (λ (x : State). InOrder x) (sym at) (start_audited s sf ok)) r.ran in
    (h.0 ∙ ap (λ (x : State). run x cs) at, h.1)

-- ---- what is answered

is_position : {x y : Outcome Position} → positioned x ≡ positioned y → y ≡ x
is_position e = cc

table_of_lem : {x y : Written TableSaid} → written x ≡ written y → y ≡ x
table_of_lem e = cc

view_of : {x y : Viewed} → viewed x ≡ viewed y → y ≡ x
view_of e = cc

net_of_lem : {x y : Netted} → netted x ≡ netted y → y ≡ x
net_of_lem e = cc

total_of : {x y : Outcome ℕ} → totalled x ≡ totalled y → y ≡ x
total_of e = cc

difference_of_lem : {x y : Outcome ℤ} → differed x ≡ differed y → y ≡ x
difference_of_lem e = cc

pub answers_of : (st : State) → InOrder st → AnswersOf Carried st
unfolding answer_of
answers_of st o =
    let two = demand_two st o in
    let three = demand_three st o in
    record {
      each = λ c said st'. carried_is o.audited;
      positions = λ t p st' k. subst (PositionTells st t) (is_position (carried_is o.audited k).0) (position_tells st o.audited t);
      tables = λ t out table st' l k.
          let is : table_of st t out ≡ table = table_of_lem (carried_is o.audited k).0 in
          (subst (TableIsTimeslice st t) is (two.tables t out l), subst (TableFromNearest st t) is (three.outsets t out l));
      views = λ t view st' k. subst (ViewIsNearest st t) (view_of (carried_is o.audited k).0) (three.views t);
      net_changes = λ a b out work net st' l i k.
          subst (NetChangeIs st a b) (net_of_lem (carried_is o.audited k).0) (three.net_changes a b out work l i);
      units = λ t x st' k. subst (UnitsTell st t) (total_of (carried_is o.audited k).0) (units_tell st o t);
      differences = λ a b x st' k. subst (DifferenceTells st a b) (difference_of_lem (carried_is o.audited k).0) (difference_tells st o a b);
    }

-- ---- the theorems

pub code_keeps : CodeKeeps
code_keeps s cs st sf cf r =
    let h = ran_from_is sf cf r in
    let ok : Accepted (begun s) = ap (λ (y : After). y.outcome) (sym r.accepted) in
    record {
      is_run = h.0;
      audited = h.1.audited;
      second = demand_two st h.1;
      third = demand_three st h.1;
      answered = answers_of st h.1;
      files = λ t. rw h.0 (held_since_kept s cs sf cf ok t);
    }

pub code_same_tables : CodeSameTables
unfolding answer_of
code_same_tables s s' cs cs' st st' sf sf' cf cf' r r' one t out out' x y z z' l l' k k' =
    let o = (ran_from_is sf cf r).1 in
    let o' = (ran_from_is sf' cf' r').1 in
    let is : table_of st t out ≡ x = table_of_lem (carried_is o.audited k).0 in
    let is' : table_of st' t out' ≡ y = table_of_lem (carried_is o'.audited k').0 in
    rw (← is, ← is') (one_table st st' o o' one t out out' l l')
