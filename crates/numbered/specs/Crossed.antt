-- What a call with its answer in numbers promises: the answer is that form of one that keeps the promise of the call, for the
-- memory that is lent. The promises are those of model. Assumes nothing.
use Rattle.std.specs.Prelude.{ℕ, ◌+◌, ◌≤◌, ◌≡◌, ◌↔◌, ℤ, List, cond, length, eqb}
use Rattle.codec.specs.Parts.{part}
use Rattle.model.specs.declared.Numbers.{Numbers}
use Rattle.model.specs.declared.Position.{Position}
use Rattle.model.specs.declared.TableSaid.{TableSaid}
use Rattle.model.specs.declared.OutsetSaid.{OutsetSaid}
use Rattle.model.specs.Answers.{Outcome, Question, Answer, outcome_of}
use Rattle.model.specs.Memory.{Memory, State, state}
use Rattle.model.specs.Starts.{Result, After, after, open_of}
use Rattle.model.specs.FirstWrong.{DueAt17}
use Rattle.model.specs.Promises.{AppendPromise, KeepPromise, PositionPromise, TablePromise, ViewPromise, NetChangePromise, UnitsPromise, DifferencePromise}
use Rattle.lending.specs.declared.Lengths.{Lengths}
use Rattle.lending.specs.Lengths.{lengths_of}
use Rattle.numbered.specs.declared.answer.YkChange.{YkChange}
use Rattle.numbered.specs.declared.answer.YkPosition.{YkPosition}
use Rattle.numbered.specs.declared.answer.YkTable.{YkTable}
use Rattle.numbered.specs.declared.outset.YkView.{YkView}
use Rattle.numbered.specs.declared.answer.YkNetChange.{YkNetChange}
use Rattle.numbered.specs.declared.answer.YkUnits.{YkUnits}
use Rattle.numbered.specs.declared.answer.YkDifference.{YkDifference}
use Rattle.numbered.specs.declared.answer.YkDropMarked.{YkDropMarked}
use Rattle.numbered.specs.declared.needed.YkLengths.{YkLengths}
use Rattle.numbered.specs.Answers.{change_out, position_out, table_out, view_out, net_change_out, units_out, difference_out, drop_marked_out, lengths_out}

-- a call that may change the store; Kept is what its promise says of the outcome and of the store then
pub record ChangeCrossed (Kept : Outcome Unit → State → Type 0) (r : YkChange) (memory' : Memory) : Type 0 where
  pub numbers : Numbers
  pub verdict : Answer Unit
  pub is : r ≡ change_out numbers verdict
  pub kept : Kept (outcome_of verdict) (state numbers memory')

-- fresh store, opening and drop: exactly what 01 says, on any memory
abbrev pub ExactlyCrossed : YkChange → Memory → After → Type 0
ExactlyCrossed r memory' defined = ChangeCrossed (λ o st'. after o st' ≡ defined) r memory'

-- 02, wish 4, of what an opening answers that keeps this promise: question 17 and record k exactly where that is due
abbrev pub CrossedTellsFirstWrong : Type 0
CrossedTellsFirstWrong =
    (m : Memory) (r : YkChange) (memory' : Memory) → ExactlyCrossed r memory' (open_of m)
    → (k : ℕ) → ((r.question ≡ 17) × (r.«record» ≡ k)) ↔ DueAt17 m k

-- insert, delete and update
abbrev pub AppendCrossed : ℕ → YkChange → State → List Question → Memory → After → Type 0
AppendCrossed more r st questions memory' defined = ChangeCrossed (λ o st'. AppendPromise more st questions o st' defined) r memory'

abbrev pub KeepCrossed : YkChange → State → (t k : ℕ) → Memory → Type 0
KeepCrossed r st t k memory' = ChangeCrossed (λ o st'. KeepPromise st t k o st') r memory'

-- drop by mark: exactly what 02 says, on any memory
pub record DropMarkedCrossed (r : YkDropMarked) (memory' : Memory) (defined : Result ℕ) : Type 0 where
  pub numbers : Numbers
  pub answer : Answer ℕ
  pub is : r ≡ drop_marked_out numbers answer
  pub kept : after (outcome_of answer) (state numbers memory') ≡ defined

pub record PositionCrossed (r : YkPosition) (st : State) (t : ℕ) : Type 0 where
  pub answer : Answer Position
  pub is : r ≡ position_out answer
  pub kept : PositionPromise st t (outcome_of answer)

pub record TableCrossed (r : YkTable) (st : State) (t : ℕ) (out out' : List ℕ) : Type 0 where
  pub answer : Answer TableSaid
  pub is : r ≡ table_out answer
  pub kept : TablePromise st t out (outcome_of answer) out'

-- the part lies in the areas where the place is an area, else in the current table
abbrev pub region_of : YkView → Memory → List ℕ
region_of r m = cond (eqb r.place 1) m.areas m.table

pub record ViewCrossed (r : YkView) (st : State) (t : ℕ) : Type 0 where
  pub answer : Answer OutsetSaid
  pub is : r ≡ view_out st.numbers.limit (length st.memory.areas) (length st.memory.table) answer
  pub within : r.start + r.length ≤ length (region_of r st.memory)
  pub kept : ViewPromise st t (outcome_of answer) (part r.start r.length (region_of r st.memory))

pub record NetChangeCrossed (r : YkNetChange) (st : State) (a b : ℕ) (out work out' work' : List ℕ) : Type 0 where
  pub answer : Answer ℕ
  pub is : r ≡ net_change_out answer
  pub kept : NetChangePromise st a b out work (outcome_of answer) out' work'

pub record UnitsCrossed (r : YkUnits) (st : State) (t : ℕ) : Type 0 where
  pub answer : Answer ℕ
  pub is : r ≡ units_out answer
  pub kept : UnitsPromise st t (outcome_of answer)

pub record DifferenceCrossed (r : YkDifference) (st : State) (a b : ℕ) : Type 0 where
  pub answer : Answer ℤ
  pub is : r ≡ difference_out answer
  pub kept : DifferencePromise st a b (outcome_of answer)

-- the lengths to lend are those of the definition
pub record LengthsCrossed (r : YkLengths) (d N R n f : ℕ) : Type 0 where
  pub answer : Answer Lengths
  pub is : r ≡ lengths_out answer
  pub kept : outcome_of answer ≡ lengths_of d N R n f
