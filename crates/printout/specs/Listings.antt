-- How far the listing is (01, "One log by hand"): it goes along the log with the reader, and knows the time of the last record
-- handed out, so that a second record of that time has no line of its own. Assumes nothing.
use Rattle.std.specs.Prelude.{ℕ, zero, suc, ◌≡◌, List, Option, Some, None}
use Rattle.model.specs.Records.{Rec}
use Rattle.reader.specs.Steps.{step_at}

-- the time of the last record, once s is handed out; t before
abbrev pub time_of : Option Rec → ℕ → ℕ
time_of (Some x) t = x.time
time_of None t = t

-- the time of the last of the first k records; 0 where there is none
abbrev pub time_up_to : List ℕ → ℕ → ℕ
time_up_to log zero = 0
time_up_to log (suc k) = time_of (step_at log k) (time_up_to log k)

-- t is the time of the log's last record: the reader hands out no more
pub record LastOf (log : List ℕ) (t : ℕ) : Type 0 where
  pub records : ℕ
  pub end : step_at log records ≡ None
  pub last : t ≡ time_up_to log records
