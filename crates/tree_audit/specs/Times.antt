-- Words of an index that are times of records: every so many records one, zeros from the end on. `TimesAt` is what
-- contracts cite. Assumes nothing.
use Rattle.std.specs.Prelude.{ℕ, ◌+◌, ◌*◌, ◌≤◌, ◌<◌, ◌≡◌, List, Bool, true, false, cond, get_or, ltb}
use Rattle.model.specs.Records.{record_in}

-- a test's answer b tells whether P holds
unfoldable pub Decides : Bool → Type 0 → Type 0
Decides true P = P
Decides false P = P → ⊥

-- the time of record k of the bytes b, or zero from record `stop` on
unfoldable pub time_in : List ℕ → ℕ → ℕ → ℕ
time_in b stop k = cond (ltb k stop) (record_in b k).time 0

-- the w words from `at` on are the times of the records first, first + step, .. before `stop`, and zeros behind them
abbrev pub TimesAt : (b : List ℕ) (first step stop : ℕ) (words : List ℕ) (at w : ℕ) → Type 0
TimesAt b first step stop words at w = (i : ℕ) → i < w → get_or words (at + i) 0 ≡ time_in b stop (first + i * step)

-- numbers that the machine can hold, words and records that are there
pub record Readable (bytes words at w first step stop : ℕ) : Type 0 where
  pub node_there : at + w ≤ words
  pub records_there : 24 * stop ≤ bytes
  pub stop_fits : stop ≤ 65536
  pub width_fits : w ≤ 63
  pub first_fits : first ≤ 65536
  pub step_fits : step ≤ 65536
