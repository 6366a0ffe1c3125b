-- Two tables in one workspace, as a net change has them before it compares them (01, "Count files"). Assumes nothing.
use Rattle.std.specs.Prelude.{ℕ, ◌*◌, ◌≤◌, ◌≡◌, List, ◌++◌, length}
use Rattle.model.specs.declared.Numbers.{Numbers}
use Rattle.model.specs.declared.Entry.{Entry}
use Rattle.model.specs.Rows.{table_bytes}
use Rattle.model.specs.Queries.{rows_at}
use Rattle.model.specs.Audit.{Audited}
use Rattle.model.specs.Promises.{store_of}
use Rattle.pages.specs.declared.lent.Lent.{Lent}
use Rattle.pages.specs.Lent.{stretch_lent}
use Rattle.catalogue.specs.declared.Candidates.{Candidates}
use Rattle.catalogue.specs.Candidates.{candidates_in}
use Rattle.tables.specs.Ways.{Ready}
use Rattle.comparing.specs.declared.Both.{Both}

-- what question 1 tells of numbers, log and index, two times up to the last, and a workspace of two tables
pub record BothReady (s : Numbers) (log index a b work : ℕ) : Type 0 where
  pub first_ready : Ready s log index a (8 * s.limit)
  pub second_ready : Ready s log index b (8 * s.limit)
  pub work_is : work ≡ 16 * s.limit

-- on audited memory work is table a and then table b, and n says their rows
pub record BothWorkedOut (s : Numbers) (log index current areas : List ℕ) (first second : Candidates) (a b : ℕ) (n : Both) (work : List ℕ) : Type 0 where
  pub on : (entries : List Entry) → first ≡ candidates_in s a entries → second ≡ candidates_in s b entries
      → let st = store_of s log index current entries areas in Audited st
      → (n ≡ record { first = length (rows_at st a); second = length (rows_at st b) })
      × (work ≡ table_bytes s.limit (rows_at st a) ++ table_bytes s.limit (rows_at st b))

-- a workspace of two tables of at most R rows, and an output for the net change of them
pub record Comparable (R : ℕ) (n : Both) (work out : ℕ) : Type 0 where
  pub first_few : n.first ≤ R
  pub second_few : n.second ≤ R
  pub work_long : 16 * R ≤ work
  pub out_is : out ≡ 24 * R

-- ---- of what a store lends

abbrev pub BothReadyLent : Lent → (a b work : ℕ) → Type 0
BothReadyLent l = BothReady l.numbers (length l.log.now) l.extents.words

abbrev pub BothWorkedLent : Lent → List ℕ → (first second : Candidates) → (a b : ℕ) → Both → List ℕ → Type 0
BothWorkedLent l = BothWorkedOut l.numbers l.log.now (stretch_lent l) l.current.now
