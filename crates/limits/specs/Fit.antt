-- What a yes to question 1, and to the questions of room, tells a caller, as facts that arithmetic can use.
-- The questions themselves stand in model/specs/Memory and Changes. Assumes nothing.
use Rattle.std.specs.Prelude.{ℕ, ◌+◌, ◌*◌, ◌≤◌, Bool, ◌&&◌}
use Rattle.model.specs.declared.Numbers.{Numbers}
use Rattle.model.specs.Settings.{records_in_range}
use Rattle.model.specs.Pages.{index_need}
use Rattle.model.specs.Memory.{index_long, capacity}

-- d, N, R and n are within their limits
pub record InRange (s : Numbers) : Type 0 where
  pub order_low : 2 ≤ s.order
  pub order_high : s.order ≤ 64
  pub page_low : 2 ≤ s.page
  pub page_high : s.page ≤ 64
  pub limit_low : 1 ≤ s.limit
  pub limit_high : s.limit ≤ 1024
  pub records_few : s.records ≤ 65536

-- question 1 is answered yes, for memory of these lengths
pub record Fit (s : Numbers) (log index table entries areas : ℕ) : Type 0 where
  pub in_range : InRange s
  pub long_log : 24 + 24 * s.records ≤ log
  pub long_index : index_need s.order s.page s.records ≤ index
  pub long_table : 8 * s.limit ≤ table
  pub live_few : s.live ≤ s.limit
  pub files_few : s.files ≤ capacity s.limit entries areas
  pub files_sixteen : s.files ≤ 16
  pub files_lent : s.files ≤ entries
  pub areas_long : 8 * s.limit * s.files ≤ areas

-- question 11 for `more` records after those there, and no where the limit has no space for them (question 10)
unfoldable pub index_room : Numbers → (more index : ℕ) → Bool
index_room s more index = records_in_range (s.records + more) && index_long s.order s.page (s.records + more) index

-- ---- room in an index

-- order, page size and number of records within their limits
pub record Indexable (d N n : ℕ) : Type 0 where
  pub order_low : 2 ≤ d
  pub order_high : d ≤ 64
  pub page_low : 2 ≤ N
  pub page_high : N ≤ 64
  pub records_few : n ≤ 65536

-- the words of 65,536 nodes of order 64: no log takes as many
abbrev pub words_most : ℕ
words_most = 4128768
