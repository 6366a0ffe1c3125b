-- What keep, drop and drop by mark do, of every catalogue of which what they are given is true. Assumes nothing.
use Rattle.std.specs.Prelude.{ℕ, suc, ◌+◌, ◌*◌, ◌≤◌, ◌<◌, ◌≡◌, List, length, take, Ok, Err}
use Rattle.model.specs.declared.Numbers.{Numbers}
use Rattle.model.specs.declared.Entry.{Entry}
use Rattle.model.specs.Answers.{Outcome, refuses, refusal, Question, first_no, Answer, outcome_of}
use Rattle.model.specs.Memory.{State}
use Rattle.model.specs.Starts.{Result, after}
use Rattle.model.specs.Files.{with_file, file_at, keep_questions, reduced}
use Rattle.model.specs.Audit.{Audited}
use Rattle.model.specs.Promises.{store_of, FileKept, KeepPromise}
use Rattle.pages.specs.declared.lent.Lent.{Lent}
use Rattle.pages.specs.Lent.{store_lent}
use Rattle.catalogue.specs.declared.Candidates.{Candidates}
use Rattle.catalogue.specs.declared.Going.{Going}
use Rattle.catalogue.specs.declared.Staying.{Staying}
use Rattle.catalogue.specs.Candidates.{used_in, candidates_in}
use Rattle.catalogue.specs.Entries.{place_for, entry_shifted, stays_when, staying_of, entries_closed}
use Rattle.tables.specs.Ways.{FitLent}
use Rattle.filing.specs.declared.Kept.{Kept}

-- ---- keep

-- no question is answered no, or the first that is gives its number alone
abbrev pub FirstNoTold : List Question → Answer Unit → Type 0
FirstNoTold questions (Ok u) = first_no questions ≡ 0
FirstNoTold questions (Err why) = (j : ℕ) × (refusal {A = Unit} why ≡ refuses (suc j)) × (first_no questions ≡ suc j)

-- r is what the questions of a keep tell, whatever the catalogue is that the candidates are of
abbrev pub KeepAsked : Lent → Candidates → List ℕ → (t k : ℕ) → Answer Unit → Type 0
KeepAsked l c areas t k r =
    (catalogue : List Entry) → c ≡ candidates_in l.numbers t catalogue → FirstNoTold (keep_questions (store_lent l catalogue areas) t k) r

-- what they tell of a keep that none of them forbids: the time is at most the last, and entries and areas have room for a file
pub record Keepable (l : Lent) (c : Candidates) (areas t : ℕ) : Type 0 where
  pub fit : FitLent l c.lent areas
  pub held : t ≤ l.numbers.last
  pub files_few : l.numbers.files < 16
  pub entry_room : l.numbers.files + 1 ≤ c.lent
  pub area_room : 8 * l.numbers.limit * (l.numbers.files + 1) ≤ areas

-- the catalogue as the kept file leaves it
abbrev pub entries_kept : Kept → List Entry → List Entry
entries_kept r catalogue = entry_shifted catalogue r.at r.end r.entry

-- a keep that answered r keeps its promise, and the entry's places are there
pub record Keeps (s : Numbers) (log index table : List ℕ) (c : Candidates) (at : ℕ) (areas : List ℕ) (t k : ℕ) (r : Kept) (areas' : List ℕ) : Type 0 where
  pub low : r.at ≤ r.end
  pub high : r.end ≤ c.lent
  pub promised : (catalogue : List Entry) → c ≡ candidates_in s t catalogue → at ≡ place_for t (used_in s catalogue)
      → KeepPromise (store_of s log index table catalogue areas) t k (outcome_of r.verdict) (store_of r.numbers log index table (entries_kept r catalogue) areas')

-- one file of time t and mark k more, of so many rows, and on audited memory its table
pub record KeptFile (st : State) (t k : ℕ) (st' : State) : Type 0 where
  pub some : FileKept st t k st'
  pub audited : (Audited st → st' ≡ with_file (file_at st t k) st)

-- ---- drop

-- entries and areas of the files that stay, and the numbers with their count: the store is then `reduced`, on any memory and
-- whatever the regions that are not lent hold
pub record LetGo (s : Numbers) (x : Staying) (areas : List ℕ) (s' : Numbers) (areas' : List ℕ) : Type 0 where
  pub is : (going : Going) (log index table : List ℕ) (catalogue : List Entry) → x ≡ staying_of going (take s.files catalogue) (length catalogue)
      → s.files ≤ length catalogue
      → store_of s' log index table (entries_closed (stays_when going) s.files catalogue) areas'
      ≡ reduced (stays_when going) (store_of s log index table catalogue areas)

-- a drop of the files that go, of which x says which stay, answered o and left these numbers and areas; `over` entries are closed
-- up. It is `defined` on any memory
pub record Drops {A : Type 0} (going : Going) (s : Numbers) (log index table : List ℕ) (x : Staying) (areas : List ℕ)
    (o : Outcome A) (s' : Numbers) (over : ℕ) (areas' : List ℕ) (defined : State → Result A) : Type 0 where
  pub few : over ≤ 16
  pub lent : over ≤ x.lent
  pub told : over ≤ s.files
  pub is : (catalogue : List Entry) → x ≡ staying_of going (used_in s catalogue) (length catalogue)
      → after o (store_of s' log index table (entries_closed (stays_when going) over catalogue) areas') ≡ defined (store_of s log index table catalogue areas)
