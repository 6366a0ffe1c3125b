-- Lists of the exported calls, `yk_insert` and so on, each as its own contract says (crates/embed). `Exported st c said st'` says
-- that the call of c's name was made on the numbers and the memory of st, that what it answered reads `said`, and that st' is
-- the numbers it answered with the memory as it left it. What a call more costs here is one constructor. Assumes nothing.
use Rattle.std.specs.Prelude.{ℕ, ◌≡◌, List, [], ◌∷◌}
use Rattle.codec.specs.Parts.{part}
use Rattle.model.specs.Memory.{Memory, State, state}
use Rattle.model.specs.Changes.{insert_questions, present_questions, insert_of, delete_of, update_of}
use Rattle.model.specs.Files.{drop_of, drop_marked_of}
use Rattle.model.specs.Audit.{audit_of}
use Rattle.model.specs.Calls.{Start, begun, Call, Said, changed, positioned, written, viewed, netted, totalled, differed, cleared, audited}
use Rattle.numbered.specs.declared.answer.YkChange.{YkChange}
use Rattle.numbered.specs.declared.answer.YkPosition.{YkPosition}
use Rattle.numbered.specs.declared.answer.YkTable.{YkTable}
use Rattle.numbered.specs.declared.outset.YkView.{YkView}
use Rattle.numbered.specs.declared.answer.YkNetChange.{YkNetChange}
use Rattle.numbered.specs.declared.answer.YkUnits.{YkUnits}
use Rattle.numbered.specs.declared.answer.YkDifference.{YkDifference}
use Rattle.numbered.specs.declared.answer.YkDropMarked.{YkDropMarked}
use Rattle.numbered.specs.Answers.{yes_out}
use Rattle.numbered.specs.Crossed.{ExactlyCrossed, AppendCrossed, PositionCrossed, TableCrossed, region_of, ViewCrossed, NetChangeCrossed, UnitsCrossed, DifferenceCrossed, KeepCrossed, DropMarkedCrossed}
use Rattle.exported.specs.Readings.{change_read, position_read, table_read, view_read, net_change_read, units_read, difference_read, drop_marked_read, audit_read}

pub data Exported : State → Call → Said → State → Type 0 where
  insert : {st : State} (t a c : ℕ) {r : YkChange} {memory' : Memory} → AppendCrossed 1 r st (insert_questions st t a) memory' (insert_of st t a c)
      → Exported st (Call.insert t a c) (changed (change_read r)) (state r.numbers memory')
  delete : {st : State} (t a : ℕ) {r : YkChange} {memory' : Memory} → AppendCrossed 1 r st (present_questions st t a 1) memory' (delete_of st t a)
      → Exported st (Call.delete t a) (changed (change_read r)) (state r.numbers memory')
  update : {st : State} (t a c : ℕ) {r : YkChange} {memory' : Memory} → AppendCrossed 2 r st (present_questions st t a 2) memory' (update_of st t a c)
      → Exported st (Call.update t a c) (changed (change_read r)) (state r.numbers memory')
  position : {st : State} (t : ℕ) {r : YkPosition} → PositionCrossed r st t → Exported st (Call.position t) (positioned (position_read r)) st
  table : {st : State} (t : ℕ) (out : List ℕ) {r : YkTable} {out' : List ℕ} → TableCrossed r st t out out'
      → Exported st (Call.table t out) (written (record { outcome = table_read r; output = out' })) st
  view : {st : State} (t : ℕ) {r : YkView} → ViewCrossed r st t
      → Exported st (Call.view t) (viewed (record { outcome = view_read r; rows = part r.start r.length (region_of r st.memory) })) st
  net_change : {st : State} (a b : ℕ) (out work : List ℕ) {r : YkNetChange} {out' work' : List ℕ} → NetChangeCrossed r st a b out work out' work'
      → Exported st (Call.net_change a b out work) (netted (record { outcome = net_change_read r; output = out'; workspace = work' })) st
  units : {st : State} (t : ℕ) {r : YkUnits} → UnitsCrossed r st t → Exported st (Call.units t) (totalled (units_read r)) st
  difference : {st : State} (a b : ℕ) {r : YkDifference} → DifferenceCrossed r st a b → Exported st (Call.difference a b) (differed (difference_read r)) st
  keep : {st : State} (t k : ℕ) {r : YkChange} {memory' : Memory} → KeepCrossed r st t k memory'
      → Exported st (Call.keep t k) (changed (change_read r)) (state r.numbers memory')
  drop : {st : State} (t : ℕ) {r : YkChange} {memory' : Memory} → ExactlyCrossed r memory' (drop_of st t)
      → Exported st (Call.drop t) (changed (change_read r)) (state r.numbers memory')
  drop_marked : {st : State} (k : ℕ) {r : YkDropMarked} {memory' : Memory} → DropMarkedCrossed r memory' (drop_marked_of st k)
      → Exported st (Call.drop_marked k) (cleared (drop_marked_read r)) (state r.numbers memory')
  audit : {st : State} {r : ℕ} → r ≡ yes_out (audit_of st) → Exported st Call.audit (audited (audit_read r)) st

-- "Each call gets the store's numbers and the lent [memory] as the last one returned or left them"
pub data ExportedRan : State → List Call → State → Type 0 where
  none : {st : State} → ExportedRan st [] st
  next : {st st' st'' : State} {c : Call} {cs : List Call} {said : Said} → Exported st c said st' → ExportedRan st' cs st'' → ExportedRan st (c ∷ cs) st''

-- `yk_fresh` or `yk_open` was accepted, question 0, and calls made after it left st'
pub record ExportedFrom (s : Start) (cs : List Call) (st' : State) : Type 0 where
  pub answer : YkChange
  pub memory : Memory
  pub started : ExactlyCrossed answer memory (begun s)
  pub accepted : answer.question ≡ 0
  pub ran : ExportedRan (state answer.numbers memory) cs st'
