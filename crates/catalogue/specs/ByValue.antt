-- The catalogue of count files by value, which the audit goes through: at most 16 entries, and how many are lent. `by_value` is
-- what its contract cites. Assumes nothing.
use Rattle.std.specs.Prelude.{ℕ, ◌≤◌, ◌<◌, ◌≡◌, List, ◌++◌, length, take, get_or, replicate}
use Rattle.model.specs.declared.Entry.{Entry}
use Rattle.model.specs.Memory.{no_entry}
use Rattle.catalogue.specs.declared.Catalogue.{Catalogue}

-- the lent entries by value: the first 16 of them, zero entries where there are fewer, and how many there are
abbrev pub by_value : List Entry → Catalogue
by_value lent = record { entries = take 16 (lent ++ replicate 16 no_entry); lent = length lent }

-- c holds the first k of the lent entries
pub record Loaded (entries : List Entry) (k : ℕ) (c : Catalogue) : Type 0 where
  pub few : k ≤ 16
  pub lent : k ≤ length entries
  pub entries_are : (i : ℕ) → i < k → get_or c.entries i no_entry ≡ get_or entries i no_entry
