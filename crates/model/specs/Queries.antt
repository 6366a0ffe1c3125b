-- Position, table, view and net change (01, "The questions, in order"; 02, wish 2): they change no part of the store.
-- Promised where the audit passes the memory. Assumes nothing.
use Rattle.std.specs.Prelude.{ℕ, ◌*◌, min, List, [], ◌∷◌, ◌++◌, ◌&&◌, length, take, leb}
use Rattle.codec.specs.Parts.{put, part}
use Rattle.model.specs.declared.Position.{Position}
use Rattle.model.specs.declared.Place.{Place}
use Rattle.model.specs.declared.Place.TheVariants.{Empty, Area, Current}
use Rattle.model.specs.Answers.{Outcome, answers, refuses, Question, question, first_no, unless_no, TableSaid, OutsetSaid}
use Rattle.model.specs.Rows.{Row, table_bytes}
use Rattle.model.specs.Timeslice.{timeslice}
use Rattle.model.specs.Memory.{Memory, State, log_of, standing}
use Rattle.model.specs.Positions.{position_at}
use Rattle.model.specs.Outset.{outset_for}
use Rattle.model.specs.NetChange.{net_change, net_change_bytes}

-- "Position, table, view, units and net change now answer such a time as they answer the time of the last request": the
-- time that a query answers where t is asked for. Every query goes through it
unfoldable pub answered_time : (last t : ℕ) → ℕ
answered_time last t = min t last

-- the rows of the table for t
abbrev pub rows_at : State → ℕ → List Row
rows_at st t = timeslice t (log_of st)

-- ---- position

unfoldable pub position_of : State → ℕ → Outcome Position
position_of st t = unless_no (first_no (standing st)) (answers (position_at st (answered_time st.numbers.last t))) refuses

-- ---- table

-- what a table call leaves: its outcome and its output
pub record Written (A : Type 0) : Type 0 where
  pub outcome : Outcome A
  pub output : List ℕ

abbrev pub table_questions : State → List ℕ → List Question
table_questions st out = standing st ++ (question 13 (leb (8 * st.numbers.limit) (length out)) ∷ [])

abbrev pub table_said : State → ℕ → TableSaid
table_said st t =
    record { rows = length (rows_at st t); side = (outset_for st t).side; between = (outset_for st t).between }

-- accepted, for a time up to the last
abbrev pub table_at : State → ℕ → List ℕ → Written TableSaid
table_at st t out =
    record { outcome = answers (table_said st t); output = put out 0 (table_bytes st.numbers.limit (rows_at st t)) }

-- refused by question k
abbrev pub no_table : List ℕ → ℕ → Written TableSaid
no_table out k = record { outcome = refuses k; output = out }

unfoldable pub table_of : State → ℕ → List ℕ → Written TableSaid
table_of st t out = unless_no (first_no (table_questions st out)) (table_at st (answered_time st.numbers.last t) out) (no_table out)

-- ---- view

-- where an outset's rows lie: "a part of the kept areas or of the current table; time 0 gives the empty part at the
-- front of the current table"
unfoldable pub rows_part : ℕ → Memory → Place → ℕ → List ℕ
rows_part R m Empty rows = take 0 m.table
rows_part R m (Area i) rows = part (8 * R * i) (8 * rows) m.areas
rows_part R m Current rows = take (8 * rows) m.table

-- what a view hands back: its outcome and the part; a refused one the empty part at the front of the current table
pub record Viewed : Type 0 where
  pub outcome : Outcome OutsetSaid
  pub rows : List ℕ

abbrev pub view_at : State → ℕ → Viewed
view_at st t =
    let c = outset_for st t in
    let h = c.outset in
    record {
      outcome = answers (record { place = h.place; rows = h.rows; side = c.side; between = c.between });
      rows = rows_part st.numbers.limit st.memory h.place h.rows;
    }

abbrev pub no_view : State → ℕ → Viewed
no_view st k = record { outcome = refuses k; rows = take 0 st.memory.table }

unfoldable pub view_of : State → ℕ → Viewed
view_of st t = unless_no (first_no (standing st)) (view_at st (answered_time st.numbers.last t)) (no_view st)

-- ---- net change

-- what a net change leaves: its outcome, its output and its workspace
pub record Netted : Type 0 where
  pub outcome : Outcome ℕ
  pub output : List ℕ
  pub workspace : List ℕ

-- "output and workspace? 13"
abbrev pub net_questions : State → List ℕ → List ℕ → List Question
net_questions st out work =
    let R = st.numbers.limit in
    standing st ++ (question 13 (leb (24 * R) (length out) && leb (16 * R) (length work)) ∷ [])

-- "The lent workspace of 16 × R bytes ends holding table a, then table b"
abbrev pub net_at : State → ℕ → ℕ → List ℕ → List ℕ → Netted
net_at st a b out work =
    let R = st.numbers.limit in
    let changes = net_change (rows_at st a) (rows_at st b) in
    record {
      outcome = answers (length changes);
      output = put out 0 (net_change_bytes R changes);
      workspace = put work 0 (table_bytes R (rows_at st a) ++ table_bytes R (rows_at st b));
    }

abbrev pub no_net : List ℕ → List ℕ → ℕ → Netted
no_net out work k = record { outcome = refuses k; output = out; workspace = work }

unfoldable pub net_of : State → ℕ → ℕ → List ℕ → List ℕ → Netted
net_of st a b out work =
    let from = answered_time st.numbers.last a in
    let to = answered_time st.numbers.last b in
    unless_no (first_no (net_questions st out work)) (net_at st from to out work) (no_net out work)
