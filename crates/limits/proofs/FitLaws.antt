-- What is at most the capacity of a catalogue; question 1 as facts. Assumes nothing.
use Prim.Native.Nat.{ℕ, ◌+◌, ◌*◌, ◌/◌, ◌≤◌, ◌<◌, min}
use mathlib.Core.Path.{◌≡◌}
use mathlib.Core.Bool.{false}
use native.Mathlib.Omega.{arith}
use native.Mathlib.Nat.{le-div_iff_mul-le, mul_comm}
use lib.Dec.{leb}
use borrow.Author.Tests.{lt-leb}
use Rattle.model.specs.declared.Numbers.{Numbers}
use Rattle.model.specs.Pages.{index_need}
use Rattle.model.specs.Memory.{capacity}
use Rattle.limits.specs.Fit.{InRange, Fit}

module _ (R entries areas n : ℕ) (h : n ≤ capacity R entries areas) where
  within : n ≤ min 16 (min entries (areas / (8 * R)))
  unfolding capacity
  within = h

  pub capacity_sixteen : n ≤ 16
  capacity_sixteen = omega (arith, within)

  pub capacity_entries : n ≤ entries
  capacity_entries = omega (arith, within)

  pub capacity_areas : 1 ≤ R → 8 * R * n ≤ areas
  capacity_areas some =
      let g : n * (8 * R) ≤ areas = (le-div_iff_mul-le {k = 8 * R} {x = n} {y = areas} (omega arith)).0 (omega (arith, within)) in
      rw (mul_comm (8 * R) n) g

pub files_past : (R entries areas n : ℕ) → min 16 entries < n → leb n (capacity R entries areas) ≡ false
unfolding capacity
files_past R entries areas n past = lt-leb n (capacity R entries areas) (omega arith)

-- the five lengths and the two counts
pub fit_of : (s : Numbers) (log index table entries areas : ℕ) → InRange s → 24 + 24 * s.records ≤ log → index_need s.order s.page s.records ≤ index → 8 * s.limit ≤ table
    → s.live ≤ s.limit → s.files ≤ capacity s.limit entries areas → Fit s log index table entries areas
fit_of s log index table entries areas ranges long-log long-index long-table few-live few-files =
    record {
      in_range = ranges;
      long_log = long-log;
      long_index = long-index;
      long_table = long-table;
      live_few = few-live;
      files_few = few-files;
      files_sixteen = capacity_sixteen s.limit entries areas s.files few-files;
      files_lent = capacity_entries s.limit entries areas s.files few-files;
      areas_long = capacity_areas s.limit entries areas s.files few-files ranges.limit_low;
    }
