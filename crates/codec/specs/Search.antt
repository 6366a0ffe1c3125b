-- A search by halves among numbers that stand in places, as the words of a node or the times of records: f i is the number at
-- place i. Both say so of two places alone, so that they hold whatever the numbers are. Assumes nothing.
use Rattle.std.specs.Prelude.{ℕ, ◌+◌, ◌-◌, ◌≤◌, ◌<◌}

-- of the first c numbers, the jth and the one before it lie on two sides of t
pub record Cut (f : ℕ → ℕ) (c t j : ℕ) : Type 0 where
  pub upto : j ≤ c
  pub before : 0 < j → f (j - 1) ≤ t
  pub after : j < c → t < f j

-- on the way there: the jth lies from `low` on, among `left` numbers and the next
pub record Bracket (f : ℕ → ℕ) (c t low left : ℕ) : Type 0 where
  pub upto : low ≤ c
  pub before : 0 < low → f (low - 1) ≤ t
  pub after : low + left < c → t < f (low + left)
