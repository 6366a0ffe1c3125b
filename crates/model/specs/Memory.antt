-- The store's numbers and the memory lent to it (01, "The questions, in order", "Count files").
-- Assumes nothing.
use Rattle.std.specs.Prelude.{ℕ, ◌+◌, ◌*◌, ◌/◌, ◌^◌, ◌<◌, min, List, [], ◌∷◌, Bool, not, ◌&&◌, ◌||◌, length, take, get_or, replicate, leb, eqb}
use Rattle.codec.specs.LittleEndian.{AreBytes}
use Rattle.codec.specs.Parts.{put, same}
use Rattle.model.specs.declared.Numbers.{Numbers}
use Rattle.model.specs.declared.Entry.{Entry}
use Rattle.model.specs.Answers.{Question, question}
use Rattle.model.specs.Settings.{order_in_range, page_size_in_range, row_limit_in_range, records_in_range}
use Rattle.model.specs.Records.{Rec, records_of, header_bytes}
use Rattle.model.specs.Rows.{Row}
use Rattle.model.specs.Timeslice.{timeslice}
use Rattle.model.specs.Pages.{page_times, index_need}

-- the five lent regions: log, table and areas are bytes, the index is 8-byte words
pub record Memory : Type 0 where
  pub log : List ℕ
  pub index : List ℕ
  pub table : List ℕ
  pub catalogue : List Entry
  pub areas : List ℕ

-- the store: its numbers and its memory
pub record State : Type 0 where
  pub numbers : Numbers
  pub memory : Memory

abbrev pub state : Numbers → Memory → State
state s m = record { numbers = s; memory = m }

-- "all zero from a fresh store or an opening"
abbrev pub no_numbers : Numbers
no_numbers = record { order = 0; page = 0; limit = 0; records = 0; last = 0; live = 0; files = 0 }

abbrev pub no_entry : Entry
no_entry = record { time = 0; rows = 0; mark = 0 }

-- ---- what a state's log says

-- its n records, and the rows that are live after them
abbrev pub log_of : State → List Rec
log_of st = records_of st.memory.log st.numbers.records

abbrev pub rows_now : State → List Row
rows_now st = timeslice st.numbers.last (log_of st)

-- the keys of its index
abbrev pub keys_of : State → List ℕ
keys_of st = page_times st.numbers.page (log_of st)

-- ---- capacity and question 1

-- "Capacity is the least of 16, the entries lent and the whole areas lent", an area being 8 × R bytes
unfoldable pub capacity : ℕ → ℕ → ℕ → ℕ
capacity R entries area_bytes = min 16 (min entries (area_bytes / (8 * R)))

abbrev pub capacity_of : ℕ → Memory → ℕ
capacity_of R m = capacity R (length m.catalogue) (length m.areas)

-- the catalogue with no file: zero up to its capacity; "Entries past the capacity … are not touched"
abbrev pub emptied : ℕ → Memory → List Entry
emptied R m = put m.catalogue 0 (replicate (capacity_of R m) no_entry)

-- "is the header the one for these numbers": no header has a last time and no record
unfoldable pub is_header : Numbers → List ℕ → Bool
is_header s log = (not (eqb s.records 0) || eqb s.last 0) && same (take 24 log) (header_bytes s)

-- "are d, N, R and n within their limits"
unfoldable pub numbers_in_range : Numbers → Bool
numbers_in_range s =
    order_in_range s.order && page_size_in_range s.page && row_limit_in_range s.limit && records_in_range s.records

-- "are log, index and table long enough" for n records
unfoldable pub log_long : ℕ → ℕ → Bool
log_long n len = leb (24 + 24 * n) len

unfoldable pub index_long : ℕ → ℕ → ℕ → ℕ → Bool
index_long d N n len = leb (index_need d N n) len

unfoldable pub table_long : ℕ → ℕ → Bool
table_long R len = leb (8 * R) len

-- question 1 of every call but fresh store, opening and audit, the index's length left out; of catalogue and areas it asks
-- the lengths
unfoldable pub fits_but_index : Numbers → List ℕ → ℕ → ℕ → ℕ → Bool
fits_but_index s log table entries areas =
    numbers_in_range s && log_long s.records (length log) && is_header s log && table_long s.limit table
    && leb s.live s.limit && leb s.files (capacity s.limit entries areas)

-- question 1
unfoldable pub fits : Numbers → List ℕ → ℕ → ℕ → ℕ → ℕ → Bool
fits s log index table entries areas =
    fits_but_index s log table entries areas && index_long s.order s.page s.records index

abbrev pub sound : State → Bool
sound st =
    let m = st.memory in
    fits st.numbers m.log (length m.index) (length m.table) (length m.catalogue) (length m.areas)

-- the questions that every call but fresh store, opening and audit asks before its own
abbrev pub standing : State → List Question
standing st = question 1 (sound st) ∷ []

-- ---- values of their types

-- what a machine can lend: bytes, 64-bit words, entries of a 64-bit time, a 32-bit count and a 32-bit mark
pub record Lendable (m : Memory) : Type 0 where
  pub log_bytes : AreBytes m.log
  pub words_of_index : (i : ℕ) → get_or m.index i 0 < 2 ^ 64
  pub bytes_of_table : AreBytes m.table
  pub entry_times : (i : ℕ) → (get_or m.catalogue i no_entry).time < 2 ^ 64
  pub entry_rows : (i : ℕ) → (get_or m.catalogue i no_entry).rows < 2 ^ 32
  pub entry_marks : (i : ℕ) → (get_or m.catalogue i no_entry).mark < 2 ^ 32
  pub bytes_of_areas : AreBytes m.areas

pub record Passable (s : Numbers) : Type 0 where
  pub order_fits : s.order < 2 ^ 16
  pub page_fits : s.page < 2 ^ 16
  pub limit_fits : s.limit < 2 ^ 32
  pub records_fit : s.records < 2 ^ 32
  pub last_fits : s.last < 2 ^ 64
  pub live_fits : s.live < 2 ^ 32
  pub files_fit : s.files < 2 ^ 32
