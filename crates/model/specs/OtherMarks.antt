-- Which outset is used does not depend on marks (02, wish 3): with any others in the catalogue, table and view answer the same, in
-- every memory. Assumes nothing.
use Rattle.std.specs.Prelude.{ℕ, ◌≡◌, List, map}
use Rattle.model.specs.declared.Entry.{Entry}
use Rattle.model.specs.Memory.{State, state}
use Rattle.model.specs.Outset.{outset_for}
use Rattle.model.specs.Queries.{table_of, view_of}

-- the entry with the mark that f gives it
abbrev pub remarked : (Entry → ℕ) → Entry → Entry
remarked f e = record { time = e.time; rows = e.rows; mark = f e }

-- the store with these marks
abbrev pub with_marks : (Entry → ℕ) → State → State
with_marks f st =
    let m = st.memory in
    state st.numbers
    (record { log = m.log; index = m.index; table = m.table; catalogue = map (remarked f) m.catalogue; areas = m.areas })

pub record MarksIgnored (f : Entry → ℕ) (st : State) : Type 0 where
  pub outset : (t : ℕ) → outset_for (with_marks f st) t ≡ outset_for st t
  pub table : (t : ℕ) (out : List ℕ) → table_of (with_marks f st) t out ≡ table_of st t out
  pub view : (t : ℕ) → view_of (with_marks f st) t ≡ view_of st t
