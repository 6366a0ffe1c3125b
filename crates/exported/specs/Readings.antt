-- What a maker reads in the answers of the exported calls: for each struct of numbers the outcome that it tells. Assumes nothing.
use Rattle.std.specs.Prelude.{ℕ, zero, suc, Bool, cond, ℤ, eqb}
use Rattle.model.specs.declared.Position.{Position}
use Rattle.model.specs.declared.Side.{Side}
use Rattle.model.specs.declared.Side.TheVariants.{Earlier, Later}
use Rattle.model.specs.declared.Place.{Place}
use Rattle.model.specs.declared.Place.TheVariants.{Empty, Area, Current}
use Rattle.model.specs.declared.TableSaid.{TableSaid}
use Rattle.model.specs.declared.OutsetSaid.{OutsetSaid}
use Rattle.model.specs.Answers.{Outcome, answers, refuses, refuses_at}
use Rattle.numbered.specs.declared.answer.YkChange.{YkChange}
use Rattle.numbered.specs.declared.answer.YkPosition.{YkPosition}
use Rattle.numbered.specs.declared.answer.YkTable.{YkTable}
use Rattle.numbered.specs.declared.outset.YkView.{YkView}
use Rattle.numbered.specs.declared.answer.YkNetChange.{YkNetChange}
use Rattle.numbered.specs.declared.answer.YkUnits.{YkUnits}
use Rattle.numbered.specs.declared.answer.YkDifference.{YkDifference}
use Rattle.numbered.specs.declared.answer.YkDropMarked.{YkDropMarked}

-- `question` is the number of the question answered no, 0 where there is none and the other fields are the answer
unfoldable pub read : {A : Type 0} → ℕ → A → Outcome A
read zero x = answers x
read (suc k) x = refuses (suc k)

-- of a call that may change the store; at 17 `record` is the record number
unfoldable pub change_read : YkChange → Outcome Unit
change_read r = cond (eqb r.question 17) (refuses_at 17 r.«record») (read r.question tt)

abbrev pub position_read : YkPosition → Outcome Position
position_read r = read r.question (record { page = record { 0 = r.page }; requests = r.requests })

-- `later` is 0 for the earlier outset
unfoldable pub side_read : ℕ → Side
side_read zero = Earlier
side_read (suc k) = Later

abbrev pub table_read : YkTable → Outcome TableSaid
table_read r = read r.question (record { rows = r.rows; side = side_read r.later; between = r.between })

-- `place` is 0 for the empty table, 1 for an area, else the current table's
unfoldable pub place_read : (place area : ℕ) → Place
place_read zero i = Empty
place_read (suc zero) i = Area i
place_read (suc (suc k)) i = Current

abbrev pub view_read : YkView → Outcome OutsetSaid
view_read r =
    read r.question (record { place = place_read r.place r.area; rows = r.rows; side = side_read r.later; between = r.between })

abbrev pub net_change_read : YkNetChange → Outcome ℕ
net_change_read r = read r.question r.entries

abbrev pub units_read : YkUnits → Outcome ℕ
units_read r = read r.question r.units

abbrev pub difference_read : YkDifference → Outcome ℤ
difference_read r = read r.question r.units

abbrev pub drop_marked_read : YkDropMarked → Outcome ℕ
drop_marked_read r = read r.question r.gone

-- 1 says yes
abbrev pub audit_read : ℕ → Bool
audit_read r = eqb r 1
