-- Calls that are made: what a call on a store answers and leaves where it keeps the promise of its contract, and such
-- calls one after the other. `Carried` names the promises that the contracts of the calls name, so a list of calls made
-- by running code is `Ran`; that it leaves what `run` says is a theorem of claims. Assumes nothing.
use Rattle.std.specs.Prelude.{ℕ, ◌≡◌, List, [], ◌∷◌, Bool, ℤ}
use Rattle.model.specs.declared.Position.{Position}
use Rattle.model.specs.Answers.{Outcome, answers, TableSaid, OutsetSaid}
use Rattle.model.specs.Memory.{State}
use Rattle.model.specs.Starts.{after}
use Rattle.model.specs.Changes.{insert_questions, present_questions, insert_of, delete_of, update_of}
use Rattle.model.specs.Files.{drop_of, drop_marked_of}
use Rattle.model.specs.Audit.{audit_of}
use Rattle.model.specs.Promises.{AppendPromise, KeepPromise, PositionPromise, TablePromise, ViewPromise, NetChangePromise, UnitsPromise, DifferencePromise}
use Rattle.model.specs.Calls.{Start, begun, Call, Said, changed, positioned, written, viewed, netted, totalled, differed, cleared, audited}

-- a call on a store answers, and leaves a store, as its contract promises
pub data Carried : State → Call → Said → State → Type 0 where
  insert : {st st' : State} (t a c : ℕ) {o : Outcome Unit} → AppendPromise 1 st (insert_questions st t a) o st' (insert_of st t a c) → Carried st (Call.insert t a c) (changed o) st'
  delete : {st st' : State} (t a : ℕ) {o : Outcome Unit} → AppendPromise 1 st (present_questions st t a 1) o st' (delete_of st t a) → Carried st (Call.delete t a) (changed o) st'
  update : {st st' : State} (t a c : ℕ) {o : Outcome Unit} → AppendPromise 2 st (present_questions st t a 2) o st' (update_of st t a c) → Carried st (Call.update t a c) (changed o) st'
  position : {st : State} (t : ℕ) {o : Outcome Position} → PositionPromise st t o → Carried st (Call.position t) (positioned o) st
  table : {st : State} (t : ℕ) (out : List ℕ) {o : Outcome TableSaid} {out' : List ℕ} → TablePromise st t out o out'
      → Carried st (Call.table t out) (written (record { outcome = o; output = out' })) st
  view : {st : State} (t : ℕ) {o : Outcome OutsetSaid} {rows : List ℕ} → ViewPromise st t o rows
      → Carried st (Call.view t) (viewed (record { outcome = o; rows = rows })) st
  net_change : {st : State} (a b : ℕ) (out work : List ℕ) {o : Outcome ℕ} {out' work' : List ℕ} → NetChangePromise st a b out work o out' work'
      → Carried st (Call.net_change a b out work) (netted (record { outcome = o; output = out'; workspace = work' })) st
  units : {st : State} (t : ℕ) {o : Outcome ℕ} → UnitsPromise st t o → Carried st (Call.units t) (totalled o) st
  difference : {st : State} (a b : ℕ) {o : Outcome ℤ} → DifferencePromise st a b o → Carried st (Call.difference a b) (differed o) st
  keep : {st st' : State} (t k : ℕ) {o : Outcome Unit} → KeepPromise st t k o st' → Carried st (Call.keep t k) (changed o) st'
  drop : {st st' : State} (t : ℕ) {o : Outcome Unit} → after o st' ≡ drop_of st t → Carried st (Call.drop t) (changed o) st'
  drop_marked : {st st' : State} (k : ℕ) {o : Outcome ℕ} → after o st' ≡ drop_marked_of st k → Carried st (Call.drop_marked k) (cleared o) st'
  audit : {st : State} {yes : Bool} → yes ≡ audit_of st → Carried st Call.audit (audited yes) st

-- "Each call gets the store's numbers and the lent [memory] as the last one returned or left them"
pub data Ran : State → List Call → State → Type 0 where
  none : {st : State} → Ran st [] st
  next : {st st' st'' : State} {c : Call} {cs : List Call} {said : Said} → Carried st c said st' → Ran st' cs st'' → Ran st (c ∷ cs) st''

-- "A list of demand 3 starts at an accepted fresh store or opening": st is what an accepted start left, and calls made
-- after it left st'
pub record RanFrom (s : Start) (cs : List Call) (st' : State) : Type 0 where
  pub first : State
  pub accepted : after (answers tt) first ≡ begun s
  pub ran : Ran first cs st'
