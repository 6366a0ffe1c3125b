-- The audit (01, "The questions, in order"). `audit_of` is what it answers, worked out from numbers and memory;
-- that it says yes exactly for what some accepted calls leave is `AuditExact` of specs/Demands. Assumes nothing.
use Rattle.std.specs.Prelude.{ℕ, ◌*◌, ◌≡◌, List, [], ◌∷◌, Bool, true, ◌&&◌, length, take, drop, leb, ltb, eqb}
use Rattle.codec.specs.Parts.{same}
use Rattle.model.specs.declared.Entry.{Entry}
use Rattle.model.specs.Rows.{table_bytes}
use Rattle.model.specs.Marks.{is_mark}
use Rattle.model.specs.Legal.{legal, last_time}
use Rattle.model.specs.Tree.{with_tree}
use Rattle.model.specs.Memory.{State, log_of, rows_now, keys_of, sound, capacity_of}
use Rattle.model.specs.Queries.{rows_at}
use Rattle.model.specs.Files.{File, files_of}

-- the log is legal and ends at the last time
unfoldable pub log_audited : State → Bool
log_audited st = legal st.numbers.limit (log_of st) && eqb st.numbers.last (last_time (log_of st))

-- the table is the current table
unfoldable pub table_audited : State → Bool
table_audited st =
    eqb st.numbers.live (length (rows_now st))
    && same (take (8 * st.numbers.limit) st.memory.table) (table_bytes st.numbers.limit (rows_now st))

-- writing the packed tree of the page times into the index changes nothing
unfoldable pub index_audited : State → Bool
index_audited st = same (with_tree st.numbers.order (keys_of st) st.memory.index) st.memory.index

-- each file is later than the one before it, up to the last time, holds the table of its time and has a mark that keep accepts
unfoldable pub files_audited : State → ℕ → List File → Bool
files_audited st before [] = true
files_audited st before (f ∷ fs) =
    ltb before f.entry.time && leb f.entry.time st.numbers.last
    && eqb f.entry.rows (length (rows_at st f.entry.time))
    && same f.area (table_bytes st.numbers.limit (rows_at st f.entry.time))
    && is_mark f.entry.mark && files_audited st f.entry.time fs

-- "zero after the last", up to the capacity, the mark too
unfoldable pub entries_zero : List Entry → Bool
entries_zero [] = true
entries_zero (e ∷ es) = eqb e.time 0 && eqb e.rows 0 && eqb e.mark 0 && entries_zero es

unfoldable pub rest_audited : State → Bool
rest_audited st =
    entries_zero (drop st.numbers.files (take (capacity_of st.numbers.limit st.memory) st.memory.catalogue))

unfoldable pub audit_of : State → Bool
audit_of st =
    sound st && log_audited st && table_audited st && index_audited st && files_audited st 0 (files_of st) && rest_audited st

-- the states on which the later calls' promises hold
abbrev pub Audited : State → Type 0
Audited st = audit_of st ≡ true
