-- Keep and drop a count file (01, "Count files", "The questions, in order"), and drop by mark (02, wish 3). Keep is promised
-- where the audit passes the memory, the drops on any memory. Assumes nothing.
use Rattle.std.specs.Prelude.{ℕ, suc, ◌+◌, ◌-◌, ◌*◌, List, [], ◌∷◌, ◌++◌, map, Bool, false, not, cond, ◌&&◌, ◌||◌, length, take, replicate, leb, ltb, eqb}
use Rattle.codec.specs.Parts.{zeros, put, part}
use Rattle.model.specs.declared.Numbers.{Numbers}
use Rattle.model.specs.declared.Entry.{Entry}
use Rattle.model.specs.Answers.{answers, Question, question, first_no, unless_no}
use Rattle.model.specs.Rows.{table_bytes}
use Rattle.model.specs.Marks.{goes, is_mark}
use Rattle.model.specs.Memory.{Memory, State, state, no_entry, standing, capacity_of}
use Rattle.model.specs.Starts.{Result, After, after}
use Rattle.model.specs.Changes.{unchanged}
use Rattle.model.specs.Queries.{rows_at}

-- a count file: its entry and the 8 × R bytes of its area
pub record File : Type 0 where
  pub entry : Entry
  pub area : List ℕ

-- "Entry i's table is in area i of 8 × R bytes"
unfoldable pub files_in : ℕ → List ℕ → ℕ → List Entry → List File
files_in R areas i [] = []
files_in R areas i (e ∷ es) = record { entry = e; area = part (8 * R * i) (8 * R) areas } ∷ files_in R areas (suc i) es

-- the files that a state holds
abbrev pub files_of : State → List File
files_of st =
    let s = st.numbers in
    files_in s.limit st.memory.areas 0 (take s.files st.memory.catalogue)

-- no file: a zero entry and a zero area
abbrev pub no_file : ℕ → File
no_file R = record { entry = no_entry; area = zeros (8 * R) }

unfoldable pub areas_bytes : List File → List ℕ
areas_bytes [] = []
areas_bytes (f ∷ fs) = f.area ++ areas_bytes fs

abbrev pub entry_of : File → Entry
entry_of f = f.entry

-- the memory with these files at the front of catalogue and areas
abbrev pub with_files : List File → Memory → Memory
with_files fs m =
    record {
      log = m.log;
      index = m.index;
      table = m.table;
      catalogue = put m.catalogue 0 (map entry_of fs);
      areas = put m.areas 0 (areas_bytes fs);
    }

abbrev pub with_count : Numbers → ℕ → Numbers
with_count s k =
    record { order = s.order; page = s.page; limit = s.limit; records = s.records; last = s.last; live = s.live; files = k }

-- ---- keep

unfoldable pub is_kept : ℕ → List File → Bool
is_kept t [] = false
is_kept t (f ∷ fs) = eqb f.entry.time t || is_kept t fs

-- "time at most the last? 12": since 02's wish 2 keep's alone, "because a later request could make it wrong"
abbrev pub time_held : State → ℕ → Question
time_held st t = question 12 (leb t st.numbers.last)

-- and since wish 3 "18 in keep, after 12 and before 14, when the mark isn't 0, 5 or 7"
abbrev pub keep_questions : State → ℕ → ℕ → List Question
keep_questions st t k =
    standing st
    ++ (time_held st t ∷ question 18 (is_mark k) ∷ question 14 (not (eqb t 0) && not (is_kept t (files_of st)))
    ∷ question 15 (ltb st.numbers.files (capacity_of st.numbers.limit st.memory)) ∷ [])

-- "ascending by time"; "Keeping shifts the later files up"
unfoldable pub file_in : File → List File → List File
file_in f [] = f ∷ []
file_in f (x ∷ xs) = cond (ltb x.entry.time f.entry.time) (x ∷ file_in f xs) (f ∷ (x ∷ xs))

-- a file of time t with so many rows, mark k and this area
abbrev pub file_of : (t rows k : ℕ) → List ℕ → File
file_of t rows k area = record { entry = record { time = t; rows = rows; mark = k }; area = area }

-- the file of time t and mark k: its entry and its table
abbrev pub file_at : State → ℕ → ℕ → File
file_at st t k = file_of t (length (rows_at st t)) k (table_bytes st.numbers.limit (rows_at st t))

-- the store with one file more
abbrev pub with_file : File → State → State
with_file f st = state (with_count st.numbers (st.numbers.files + 1)) (with_files (file_in f (files_of st)) st.memory)

unfoldable pub keep_of : State → ℕ → ℕ → After
keep_of st t k = unless_no (first_no (keep_questions st t k)) (after (answers tt) (with_file (file_at st t k) st)) (unchanged st)

-- ---- the files that a test lets stay

-- in order
unfoldable pub staying : (Entry → Bool) → List File → List File
staying stays [] = []
staying stays (f ∷ fs) = cond (stays f.entry) (f ∷ staying stays fs) (staying stays fs)

-- "dropping shifts them down and zeroes the last used entry and area"; of a mark, "closing up the rest in order with zeros in the
-- entries and areas set free"
abbrev pub closed_up : ℕ → ℕ → List File → List File
closed_up R files fs = fs ++ replicate (files - length fs) (no_file R)

-- the store with only the files that the test lets stay
abbrev pub reduced : (Entry → Bool) → State → State
reduced stays st =
    let s = st.numbers in
    let left = staying stays (files_of st) in
    state (with_count s (length left)) (with_files (closed_up s.limit s.files left) st.memory)

-- ---- drop

-- the entry is of another time
abbrev pub not_of : ℕ → Entry → Bool
not_of t e = not (eqb e.time t)

abbrev pub drop_questions : State → ℕ → List Question
drop_questions st t = standing st ++ (question 16 (is_kept t (files_of st)) ∷ [])

unfoldable pub drop_of : State → ℕ → After
drop_of st t = unless_no (first_no (drop_questions st t)) (after (answers tt) (reduced (not_of t) st)) (unchanged st)

-- ---- drop by mark (02, wish 3)

abbrev pub is_marked : ℕ → Entry → Bool
is_marked k e = eqb e.mark k

-- the entry has another mark
abbrev pub not_marked : ℕ → Entry → Bool
not_marked k e = not (is_marked k e)

-- "18 in the marked deletion, after 1, when it isn't 5 or 7"
abbrev pub drop_marked_questions : State → ℕ → List Question
drop_marked_questions st k = standing st ++ (question 18 (goes k) ∷ [])

-- "deletes every file with a given mark … and answers how many went; none is a fine answer"
unfoldable pub drop_marked_of : State → ℕ → Result ℕ
drop_marked_of st k =
    unless_no (first_no (drop_marked_questions st k))
    (after (answers (length (staying (is_marked k) (files_of st)))) (reduced (not_marked k) st))
    (unchanged st)
