-- Each exported call, as its contract says, is a call that keeps its promise (`Carried`, model/specs/Chains), with what is read in
-- its answer: one law for each. So an accepted start and a list of them are `RanFrom`. Assumes nothing.
use Rattle.std.specs.Prelude.{Ok, Err}
use Prim.Native.Nat.{ℕ, zero, suc}
use mathlib.Core.Path.{◌≡◌, refl, sym, ap, ◌∙◌}
use mathlib.Core.List.{List}
use mathlib.Core.Bool.{Bool, true, false}
use lib.IntN.{ℤ}
use lib.ListN.{length}
use Rattle.model.specs.declared.Numbers.{Numbers}
use Rattle.model.specs.declared.Position.{Position}
use Rattle.model.specs.declared.Side.{Side}
use Rattle.model.specs.declared.Side.TheVariants.{Earlier, Later}
use Rattle.model.specs.declared.Place.{Place}
use Rattle.model.specs.declared.Place.TheVariants.{Empty, Area, Current}
use Rattle.model.specs.declared.TableSaid.{TableSaid}
use Rattle.model.specs.declared.OutsetSaid.{OutsetSaid}
use Rattle.model.specs.Answers.{Outcome, answers, Question, asks, first_no, unless_no, outcome_of, Answer}
use Rattle.model.specs.Memory.{Memory, State, state, standing}
use Rattle.model.specs.Starts.{Result, after}
use Rattle.model.specs.Changes.{unchanged}
use Rattle.model.specs.Queries.{table_questions, net_questions}
use Rattle.model.specs.Files.{drop_marked_questions, drop_marked_of}
use Rattle.model.specs.Audit.{audit_of}
use Rattle.model.specs.Promises.{refused_number, FirstNoRefuses}
use Rattle.model.specs.Calls.{Start, begun, Call, Said}
use Rattle.model.specs.Chains.{Carried, Ran, RanFrom}
use Rattle.numbered.specs.declared.answer.YkChange.{YkChange}
use Rattle.numbered.specs.declared.answer.YkDropMarked.{YkDropMarked}
use Rattle.numbered.specs.Answers.{change_out, drop_marked_out, position_out, later_of, table_out, place_out, area_out, view_out, net_change_out, units_out, difference_out, yes_out}
use Rattle.numbered.specs.Crossed.{ChangeCrossed}
use Rattle.exported.specs.Readings.{read, change_read, position_read, side_read, table_read, place_read, view_read, net_change_read, units_read, difference_read, drop_marked_read, audit_read}
use Rattle.exported.specs.Calling.{Exported, ExportedRan, ExportedFrom}
use Rattle.exported.proofs.Refusals.{whole-read, first_read}

-- ---- what is read in each answer

change_read_lem : (s : Numbers) (v : Answer Unit) → (change_read (change_out s v) ≡ outcome_of v) × ((change_out s v).numbers ≡ s)
unfolding change_read change_out read
change_read_lem s (Ok u) = (refl, refl)
change_read_lem s (Err why) = (whole-read why, refl)

position-read : (qs : List Question) (x : Answer Position) → asks 17 qs ≡ false → FirstNoRefuses qs (outcome_of x) → position_read (position_out x) ≡ outcome_of x
unfolding position_out read
position-read qs (Ok p) e h = refl
position-read qs (Err why) e h = first_read Position _ qs why e h

-- a side and a place, told in numbers and read again
told_side : (side : Side) → side_read (later_of side) ≡ side
unfolding later_of side_read
told_side Earlier = refl
told_side Later = refl

told_place : (place : Place) → place_read (place_out place) (area_out place) ≡ place
unfolding place_out area_out place_read
told_place Empty = refl
told_place (Area i) = refl
told_place Current = refl

table-read : (qs : List Question) (x : Answer TableSaid) → asks 17 qs ≡ false → FirstNoRefuses qs (outcome_of x) → table_read (table_out x) ≡ outcome_of x
unfolding table_out read
table-read qs (Ok s) e h = rw (told_side s.side)
table-read qs (Err why) e h = first_read TableSaid _ qs why e h

view-read : (R areas current : ℕ) (qs : List Question) (x : Answer OutsetSaid) → asks 17 qs ≡ false → FirstNoRefuses qs (outcome_of x) → view_read (view_out R areas current x) ≡ outcome_of x
unfolding view_out read
view-read R areas current qs (Ok s) e h = rw (told_side s.side, told_place s.place)
view-read R areas current qs (Err why) e h = first_read OutsetSaid _ qs why e h

net_change_read_lem : (qs : List Question) (x : Answer ℕ) → asks 17 qs ≡ false → FirstNoRefuses qs (outcome_of x) → net_change_read (net_change_out x) ≡ outcome_of x
unfolding net_change_out read
net_change_read_lem qs (Ok k) e h = refl
net_change_read_lem qs (Err why) e h = first_read ℕ _ qs why e h

units-read : (qs : List Question) (x : Answer ℕ) → asks 17 qs ≡ false → FirstNoRefuses qs (outcome_of x) → units_read (units_out x) ≡ outcome_of x
unfolding units_out read
units-read qs (Ok k) e h = refl
units-read qs (Err why) e h = first_read ℕ _ qs why e h

difference-read : (qs : List Question) (x : Answer ℤ) → asks 17 qs ≡ false → FirstNoRefuses qs (outcome_of x) → difference_read (difference_out x) ≡ outcome_of x
unfolding difference_out read
difference-read qs (Ok k) e h = refl
difference-read qs (Err why) e h = first_read ℤ _ qs why e h

drop-marked-read : (qs : List Question) (s : Numbers) (x : Answer ℕ) → asks 17 qs ≡ false → FirstNoRefuses qs (outcome_of x) → drop_marked_read (drop_marked_out s x) ≡ outcome_of x
unfolding drop_marked_out read
drop-marked-read qs s (Ok k) e h = refl
drop-marked-read qs s (Err why) e h = first_read ℕ _ qs why e h

drop-marked-numbers : (s : Numbers) (x : Answer ℕ) → (drop_marked_out s x).numbers ≡ s
unfolding drop_marked_out
drop-marked-numbers s (Ok k) = refl
drop-marked-numbers s (Err why) = refl

audit_read_lem : (b : Bool) → audit_read (yes_out b) ≡ b
audit_read_lem true = refl
audit_read_lem false = refl

-- ---- each call

-- what is kept of a call that may change the store holds of what is read
change_kept : (Kept : Outcome Unit → State → Type 0) {r : YkChange} {memory' : Memory} → ChangeCrossed Kept r memory' → Kept (change_read r) (state r.numbers memory')
change_kept Kept {r} {memory'} p = let c = change_read_lem p.numbers p.verdict in rw (p.is, c.0, c.1) p.kept

-- a call that is its definition is refused by the first of its questions answered no
unless_number : (n x : ℕ) (st st' : State) → refused_number (unless_no n (after (answers x) st') (unchanged st)).outcome ≡ n
unfolding refused_number
unless_number zero x st st' = refl
unless_number (suc n) x st st' = refl

marked_first : (st : State) (k : ℕ) (o : Outcome ℕ) (st' : State) → after o st' ≡ drop_marked_of st k → FirstNoRefuses (drop_marked_questions st k) o
unfolding drop_marked_of
marked_first st k o st' e = ap (λ (x : Result ℕ). refused_number x.outcome) e ∙ unless_number (first_no (drop_marked_questions st k)) _ st _

pub exported_carried : {st : State} {c : Call} {said : Said} {st' : State} → Exported st c said st' → Carried st c said st'
unfolding asks
exported_carried (Exported.insert t a c p) = Carried.insert t a c (change_kept _ p)
exported_carried (Exported.delete t a p) = Carried.delete t a (change_kept _ p)
exported_carried (Exported.update t a c p) = Carried.update t a c (change_kept _ p)
exported_carried {st} (Exported.position t p) =
    rw (ap position_read p.is ∙ position-read (standing st) p.answer refl p.kept.asked) (Carried.position t p.kept)
exported_carried {st} (Exported.table t out p) =
    rw (ap table_read p.is ∙ table-read (table_questions st out) p.answer refl p.kept.asked) (Carried.table t out p.kept)
exported_carried {st} (Exported.view t p) =
    let m = st.memory in
    let is = ap view_read p.is ∙ view-read st.numbers.limit (length m.areas) (length m.table) (standing st) p.answer refl p.kept.asked in
    rw is (Carried.view t p.kept)
exported_carried {st} (Exported.net_change a b out work p) =
    rw (ap net_change_read p.is ∙ net_change_read_lem (net_questions st out work) p.answer refl p.kept.asked) (Carried.net_change a b out work p.kept)
exported_carried {st} (Exported.units t p) =
    rw (ap units_read p.is ∙ units-read (standing st) p.answer refl p.kept.asked) (Carried.units t p.kept)
exported_carried {st} (Exported.difference a b p) =
    rw (ap difference_read p.is ∙ difference-read (standing st) p.answer refl p.kept.asked) (Carried.difference a b p.kept)
exported_carried (Exported.keep t k p) = Carried.keep t k (change_kept _ p)
exported_carried (Exported.drop t p) = Carried.drop t (change_kept _ p)
exported_carried {st} (Exported.drop_marked k {r = r} {memory' = memory'} p) =
    let asked = marked_first st k _ _ p.kept in
    let is : drop_marked_read r ≡ outcome_of p.answer = ap drop_marked_read p.is ∙ drop-marked-read (drop_marked_questions st k) p.numbers p.answer refl asked in
    let numbers : r.numbers ≡ p.numbers = ap (λ (x : YkDropMarked). x.numbers) p.is ∙ drop-marked-numbers p.numbers p.answer in
    let defined : after (drop_marked_read r) (state r.numbers memory') ≡ drop_marked_of st k = rw (is, numbers) p.kept in
    Carried.drop_marked k defined
exported_carried {st} (Exported.audit e) = Carried.audit (ap audit_read e ∙ audit_read_lem (audit_of st))

-- ---- lists of them

pub exported_ran : {st : State} {cs : List Call} {st' : State} → ExportedRan st cs st' → Ran st cs st'
exported_ran ExportedRan.none = Ran.none
exported_ran (ExportedRan.next k r) = Ran.next (exported_carried k) (exported_ran r)

-- question 0 is read as an answer
accepted_read : (r : YkChange) → r.question ≡ 0 → change_read r ≡ answers tt
unfolding change_read read
accepted_read r e = rw e

pub exported_ran_from : {s : Start} {cs : List Call} {st : State} → ExportedFrom s cs st → RanFrom s cs st
exported_ran_from {s} h =
    record {
      first = state h.answer.numbers h.memory;
      accepted = ap (λ (o : Outcome Unit). after o (state h.answer.numbers h.memory)) (sym (accepted_read h.answer h.accepted)) ∙ change_kept (λ o st'. after o st' ≡ begun s) h.started;
      ran = exported_ran h.ran;
    }
