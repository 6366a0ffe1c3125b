-- A table's bytes as the rows of a list, for the layers above: which of its functions does what to
-- the rows. On bytes that are no table they only stay within them. Assumes nothing.
use Rattle.std.specs.Prelude.{ℕ, ◌≤◌, ◌<◌, ◌≡◌, List, true, false, length, Result, Ok, Err}
use Rattle.model.specs.Rows.{Row, lacks, count_of, Ascending, table_bytes}
use Rattle.model.specs.Small.{Small}
use Rattle.rows.specs.Table.{before}
use Rattle.rows.specs.declared.Found.{Found}

-- xs is the table of the rows T with row limit R, m rows long
pub record TableIs (R : ℕ) (T : List Row) (m : ℕ) (xs : List ℕ) : Type 0 where
  pub bytes_are : xs ≡ table_bytes R T
  pub count_is : m ≡ length T
  pub ascending : Ascending 0 T
  pub small : Small T
  pub few : length T ≤ R

-- what a lookup of article a in the rows T finds: where its row stands and its count, or where it
-- would stand
unfoldable pub FoundIn : List Row → ℕ → Result Found ℕ → Type 0
FoundIn T a (Ok f) = (lacks a T ≡ false) × ((f.at ≡ before a T) × (f.count ≡ count_of a T))
FoundIn T a (Err p) = (lacks a T ≡ true) × (p ≡ before a T)

-- the place found lies within m rows
unfoldable pub FoundWithin : ℕ → Result Found ℕ → Type 0
FoundWithin m (Ok f) = f.at < m
FoundWithin m (Err p) = p ≤ m
