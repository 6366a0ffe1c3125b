-- The answers in numbers: for each answer of a call the numbers that cross to C in its place, the question answered no by its
-- number in 01. Computed cases in which all fields differ are in proofs/AnswerCases. Assumes nothing.
use Rattle.std.specs.Prelude.{ℕ, ◌-◌, ◌*◌, min, Bool, cond, ℤ, pos, Ok, Err}
use Rattle.model.specs.declared.Numbers.{Numbers}
use Rattle.model.specs.declared.Position.{Position}
use Rattle.model.specs.declared.Side.{Side}
use Rattle.model.specs.declared.Side.TheVariants.{Earlier, Later}
use Rattle.model.specs.declared.Place.{Place}
use Rattle.model.specs.declared.Place.TheVariants.{Empty, Area, Current}
use Rattle.model.specs.declared.TableSaid.{TableSaid}
use Rattle.model.specs.declared.OutsetSaid.{OutsetSaid}
use Rattle.model.specs.Answers.{Answer}
use Rattle.lending.specs.declared.Lengths.{Lengths}
use Rattle.answers.specs.Question.{number_of, record_of}
use Rattle.numbered.specs.declared.answer.YkChange.{YkChange}
use Rattle.numbered.specs.declared.answer.YkPosition.{YkPosition}
use Rattle.numbered.specs.declared.answer.YkTable.{YkTable}
use Rattle.numbered.specs.declared.outset.YkView.{YkView}
use Rattle.numbered.specs.declared.answer.YkNetChange.{YkNetChange}
use Rattle.numbered.specs.declared.answer.YkUnits.{YkUnits}
use Rattle.numbered.specs.declared.answer.YkDifference.{YkDifference}
use Rattle.numbered.specs.declared.answer.YkDropMarked.{YkDropMarked}
use Rattle.numbered.specs.declared.outset.Span.{Span}
use Rattle.numbered.specs.declared.needed.YkLengths.{YkLengths}

unfoldable pub change_out : Numbers → Answer Unit → YkChange
change_out s (Ok u) = record { numbers = s; question = 0; «record» = 0 }
change_out s (Err why) = record { numbers = s; question = number_of why; «record» = record_of why }

unfoldable pub drop_marked_out : Numbers → Answer ℕ → YkDropMarked
drop_marked_out s (Ok k) = record { numbers = s; question = 0; gone = k }
drop_marked_out s (Err why) = record { numbers = s; question = number_of why; gone = 0 }

unfoldable pub position_out : Answer Position → YkPosition
position_out (Ok p) = record { question = 0; page = p.page.0; requests = p.requests }
position_out (Err why) = record { question = number_of why; page = 0; requests = 0 }

-- 1 for the later side
unfoldable pub later_of : Side → ℕ
later_of Earlier = 0
later_of Later = 1

unfoldable pub table_out : Answer TableSaid → YkTable
table_out (Ok s) = record { question = 0; rows = s.rows; later = later_of s.side; between = s.between }
table_out (Err why) = record { question = number_of why; rows = 0; later = 0; between = 0 }

-- ---- the view

-- the kind of a place, and the number of its area
unfoldable pub place_out : Place → ℕ
place_out Empty = 0
place_out (Area i) = 1
place_out Current = 2

unfoldable pub area_out : Place → ℕ
area_out Empty = 0
area_out (Area i) = i
area_out Current = 0

abbrev pub span : ℕ → ℕ → Span
span start length = record { start = start; length = length }

-- the part that so many rows at a place are, of areas and a current table of these lengths: cut where the bytes end
unfoldable pub span_of : (R areas current : ℕ) → Place → ℕ → Span
span_of R areas current Empty rows = span 0 0
span_of R areas current (Area i) rows = let at = min (8 * R * i) areas in span at (min (8 * rows) (areas - at))
span_of R areas current Current rows = span 0 (min (8 * rows) current)

unfoldable pub view_out : (R areas current : ℕ) → Answer OutsetSaid → YkView
view_out R areas current (Ok s) =
    record {
      question = 0;
      place = place_out s.place;
      area = area_out s.place;
      rows = s.rows;
      later = later_of s.side;
      between = s.between;
      start = (span_of R areas current s.place s.rows).start;
      length = (span_of R areas current s.place s.rows).length;
    }
view_out R areas current (Err why) =
    record { question = number_of why; place = 0; area = 0; rows = 0; later = 0; between = 0; start = 0; length = 0 }

-- ---- net change, units and audit

unfoldable pub net_change_out : Answer ℕ → YkNetChange
net_change_out (Ok k) = record { question = 0; entries = k }
net_change_out (Err why) = record { question = number_of why; entries = 0 }

unfoldable pub units_out : Answer ℕ → YkUnits
units_out (Ok k) = record { question = 0; units = k }
units_out (Err why) = record { question = number_of why; units = 0 }

unfoldable pub difference_out : Answer ℤ → YkDifference
difference_out (Ok k) = record { question = 0; units = k }
difference_out (Err why) = record { question = number_of why; units = pos 0 }

-- 1 for yes
abbrev pub yes_out : Bool → ℕ
yes_out b = cond b 1 0

-- ---- the lengths to lend

unfoldable pub lengths_out : Answer Lengths → YkLengths
lengths_out (Ok l) =
    record {
      question = 0;
      log = l.log;
      index = l.index;
      table = l.table;
      entries = l.entries;
      areas = l.areas;
      output = l.output;
      workspace = l.workspace;
    }
lengths_out (Err why) =
    record { question = number_of why; log = 0; index = 0; table = 0; entries = 0; areas = 0; output = 0; workspace = 0 }
