-- What it means that the audit passes a state, as facts by name, and the states along a list of calls.
-- `AuditedFacts` and `InOrder` are what laws cite. Assumes nothing.
use Rattle.std.specs.Prelude.{ℕ, ◌+◌, ◌-◌, ◌*◌, ◌≤◌, ◌<◌, ◌≡◌, List, [], ◌∷◌, true, length, take, drop, replicate}
use Rattle.model.specs.Records.{Rec, header_bytes}
use Rattle.model.specs.Rows.{table_bytes}
use Rattle.model.specs.Marks.{is_mark}
use Rattle.model.specs.Timeslice.{timeslice}
use Rattle.model.specs.Legal.{legal, last_time}
use Rattle.model.specs.Pages.{index_need}
use Rattle.model.specs.Tree.{with_tree}
use Rattle.model.specs.Memory.{State, Lendable, Passable, no_entry, log_of, rows_now, keys_of, capacity_of}
use Rattle.model.specs.Files.{File, files_of}
use Rattle.model.specs.Audit.{Audited}

-- a count file of the log rs, whose last time is `last`: later than `before`, the table of its time, and of a mark
pub record FileIs (R last : ℕ) (rs : List Rec) (before : ℕ) (f : File) : Type 0 where
  pub later : before < f.entry.time
  pub held : f.entry.time ≤ last
  pub rows_are : f.entry.rows ≡ length (timeslice f.entry.time rs)
  pub area_is : f.area ≡ table_bytes R (timeslice f.entry.time rs)
  pub mark_is : is_mark f.entry.mark ≡ true

-- each later than the one before it
unfoldable pub FilesAre : (R last : ℕ) (rs : List Rec) → ℕ → List File → Type 0
FilesAre R last rs before [] = Unit
FilesAre R last rs before (f ∷ fs) = FileIs R last rs before f × FilesAre R last rs f.entry.time fs

-- settings and number of records within their limits, and the lent regions long enough for them
pub record InLimits (st : State) : Type 0 where
  pub order_low : 2 ≤ st.numbers.order
  pub order_high : st.numbers.order ≤ 64
  pub page_low : 2 ≤ st.numbers.page
  pub page_high : st.numbers.page ≤ 64
  pub limit_low : 1 ≤ st.numbers.limit
  pub limit_high : st.numbers.limit ≤ 1024
  pub records_few : st.numbers.records ≤ 65536
  pub long_log : 24 + 24 * st.numbers.records ≤ length st.memory.log
  pub long_index : index_need st.numbers.order st.numbers.page st.numbers.records ≤ length st.memory.index
  pub long_table : 8 * st.numbers.limit ≤ length st.memory.table
  pub files_few : st.numbers.files ≤ capacity_of st.numbers.limit st.memory

-- what the audit says yes to: the header's bytes, a legal log that ends at the last time, the current table, the packed
-- tree, the count files, and zero entries behind them up to the capacity
pub record AuditedFacts (st : State) : Type 0 where
  pub limits : InLimits st
  pub header_is : take 24 st.memory.log ≡ header_bytes st.numbers
  pub log_legal : legal st.numbers.limit (log_of st) ≡ true
  pub last_is : st.numbers.last ≡ last_time (log_of st)
  pub live_is : st.numbers.live ≡ length (rows_now st)
  pub table_is : take (8 * st.numbers.limit) st.memory.table ≡ table_bytes st.numbers.limit (rows_now st)
  pub index_is : with_tree st.numbers.order (keys_of st) st.memory.index ≡ st.memory.index
  pub files_are : FilesAre st.numbers.limit st.numbers.last (log_of st) 0 (files_of st)
  pub rest_is : drop st.numbers.files (take (capacity_of st.numbers.limit st.memory) st.memory.catalogue)
      ≡ replicate (capacity_of st.numbers.limit st.memory - st.numbers.files) no_entry

-- a state as a list of calls leaves it: audited, of values of their types
pub record InOrder (st : State) : Type 0 where
  pub audited : Audited st
  pub lendable : Lendable st.memory
  pub passable : Passable st.numbers
