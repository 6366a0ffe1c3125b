-- The form of the calls' promises (mission, demand 1). Fresh store, opening, drop, drop by mark and audit promise their
-- definition on any memory. Every other call promises four things, the first three whatever the memory: by which questions it
-- is refused; that a refusal, by whatever number, leaves everything as it was; which bytes it may write, and how far what it
-- answers may go; and where the audit passes the memory, that answer and memory are those of the call's definition. Assumes
-- nothing.
use Rattle.std.specs.Prelude.{ℕ, ◌+◌, ◌*◌, ◌≤◌, ◌<◌, ◌≡◌, ◌⊎◌, List, [], ◌∷◌, Bool, true, false, cond, length, drop, get_or, eqb, ℤ}
use Rattle.model.specs.declared.Numbers.{Numbers}
use Rattle.model.specs.declared.Entry.{Entry}
use Rattle.model.specs.declared.Position.{Position}
use Rattle.model.specs.Answers.{Outcome, answers, refuses, refuses_at, Question, asks, first_no, TableSaid, OutsetSaid}
use Rattle.model.specs.Pages.{pages_of}
use Rattle.model.specs.Tree.{AppendsFrame}
use Rattle.model.specs.Memory.{State, state, standing}
use Rattle.model.specs.Starts.{After, after}
use Rattle.model.specs.Queries.{Written, Viewed, Netted, position_of, table_questions, table_of, view_of, net_questions, net_of}
use Rattle.model.specs.Files.{with_file, file_of, keep_questions, keep_of}
use Rattle.model.specs.Audit.{Audited}
use Rattle.model.specs.Units.{units_of, difference_of}

-- the store of these numbers and lent regions
abbrev pub store_of : Numbers → List ℕ → List ℕ → List ℕ → List Entry → List ℕ → State
store_of s log index table catalogue areas =
    state s (record { log = log; index = index; table = table; catalogue = catalogue; areas = areas })

-- ---- refusals

-- the call was refused, by whatever question
unfoldable pub is_refused : {A : Type 0} → Outcome A → Bool
is_refused (answers x) = false
is_refused (refuses k) = true
is_refused (refuses_at k r) = true

-- it was refused by question k
unfoldable pub refused_by : {A : Type 0} → ℕ → Outcome A → Bool
refused_by k (answers x) = false
refused_by k (refuses j) = eqb j k
refused_by k (refuses_at j r) = eqb j k

-- the number of the question that it was refused by, 0 where it was not refused
unfoldable pub refused_number : {A : Type 0} → Outcome A → ℕ
refused_number (answers x) = 0
refused_number (refuses k) = k
refused_number (refuses_at k r) = k

-- "the refusal is that of 01's first question answered no, and none if there is no such question"
abbrev pub FirstNoRefuses : {A : Type 0} → List Question → Outcome A → Type 0
FirstNoRefuses questions o = refused_number o ≡ first_no questions

-- the number of the one of these questions that it was refused by, 0 if it was by none of them
unfoldable pub refused_among : {A : Type 0} → List Question → Outcome A → ℕ
refused_among [] o = 0
refused_among (q ∷ qs) o = cond (refused_by q.number o) q.number (refused_among qs o)

-- if it was refused, it was by one of these questions, whose number it gives alone
unfoldable pub by_one_of : {A : Type 0} → List Question → Outcome A → Bool
by_one_of questions (answers x) = true
by_one_of questions (refuses k) = asks k questions
by_one_of questions (refuses_at k r) = false

-- ---- answers

-- what is answered, where something is, is so
unfoldable pub IfAnswered : {A : Type 0} → (A → Type 0) → Outcome A → Type 0
IfAnswered Is (answers x) = Is x
IfAnswered Is (refuses k) = Unit
IfAnswered Is (refuses_at k r) = Unit

-- ---- frames

-- from place k on nothing was written
pub record Beyond {A : Type 0} (k : ℕ) (xs ys : List A) : Type 0 where
  pub same_length : length ys ≡ length xs
  pub same_rest : drop k ys ≡ drop k xs

-- ---- insert, delete and update

-- 7 and 8 are asked of the rows, which on memory that the audit denies may not be the log's; on any memory a standing question
-- refuses exactly where one is answered no, the first such, and no refusal is by a question that is not the call's own
pub record AppendAsked {A : Type 0} (st : State) (questions : List Question) (o : Outcome A) : Type 0 where
  pub standing_first : refused_among (standing st) o ≡ first_no (standing st)
  pub own : by_one_of questions o ≡ true

-- 01 names the header, the slots of `more` records, the table's 8 × R bytes, and of the index the nodes that the keys of the
-- pages begun by these records are written to
pub record AppendFrame (more : ℕ) (st st' : State) : Type 0 where
  pub log_length : length st'.memory.log ≡ length st.memory.log
  pub log_framed : (i : ℕ) → 24 ≤ i → (i < 24 + 24 * st.numbers.records) ⊎ (24 + 24 * (st.numbers.records + more) ≤ i)
      → get_or st'.memory.log i 0 ≡ get_or st.memory.log i 0
  pub index_framed :
      let s = st.numbers in
      AppendsFrame s.order (pages_of s.page s.records) (pages_of s.page (s.records + more)) st.memory.index st'.memory.index
  pub table_framed : Beyond (8 * st.numbers.limit) st.memory.table st'.memory.table
  pub catalogue_same : st'.memory.catalogue ≡ st.memory.catalogue
  pub areas_same : st'.memory.areas ≡ st.memory.areas

-- a call with these questions that appends up to `more` records, answered o and leaving st', where its definition gives `defined`
pub record AppendPromise (more : ℕ) (st : State) (questions : List Question) (o : Outcome Unit) (st' : State) (defined : After) : Type 0 where
  pub asked : AppendAsked st questions o
  pub refused : (is_refused o ≡ true → st' ≡ st)
  pub framed : AppendFrame more st st'
  pub audited : (Audited st → after o st' ≡ defined)

-- ---- keep

-- one file of time t and mark k stands at its place, the later ones shifted up, and nothing else is written; on memory that the
-- audit denies its rows and its table are left open
pub record FileKept (st : State) (t k : ℕ) (st' : State) : Type 0 where
  pub rows : ℕ
  pub area : List ℕ
  pub rows_few : rows ≤ st.numbers.limit
  pub area_whole : length area ≡ 8 * st.numbers.limit
  pub is : st' ≡ with_file (file_of t rows k area) st

pub record KeepPromise (st : State) (t k : ℕ) (o : Outcome Unit) (st' : State) : Type 0 where
  pub asked : FirstNoRefuses (keep_questions st t k) o
  pub refused : (is_refused o ≡ true → st' ≡ st)
  pub filed : IfAnswered (λ done. FileKept st t k st') o
  pub audited : (Audited st → after o st' ≡ keep_of st t k)

-- ---- position, table, view, net change and units: all of the store is lent to be read alone

pub record PositionPromise (st : State) (t : ℕ) (o : Outcome Position) : Type 0 where
  pub asked : FirstNoRefuses (standing st) o
  pub audited : (Audited st → o ≡ position_of st t)

pub record TablePromise (st : State) (t : ℕ) (out : List ℕ) (o : Outcome TableSaid) (out' : List ℕ) : Type 0 where
  pub asked : FirstNoRefuses (table_questions st out) o
  pub refused : (is_refused o ≡ true → out' ≡ out)
  pub rows_few : IfAnswered (λ said. said.rows ≤ st.numbers.limit) o
  pub framed : Beyond (8 * st.numbers.limit) out out'
  pub audited : (Audited st → ◌≡◌ {A = Written TableSaid} (record { outcome = o; output = out' }) (table_of st t out))

-- the part handed back has 8 bytes for each row
pub record ViewPromise (st : State) (t : ℕ) (o : Outcome OutsetSaid) (rows : List ℕ) : Type 0 where
  pub asked : FirstNoRefuses (standing st) o
  pub rows_few : IfAnswered (λ said. said.rows ≤ st.numbers.limit) o
  pub rows_whole : IfAnswered (λ said. length rows ≡ 8 * said.rows) o
  pub audited : (Audited st → ◌≡◌ {A = Viewed} (record { outcome = o; rows = rows }) (view_of st t))

pub record NetChangePromise (st : State) (a b : ℕ) (out work : List ℕ) (o : Outcome ℕ) (out' work' : List ℕ) : Type 0 where
  pub asked : FirstNoRefuses (net_questions st out work) o
  pub refused : (is_refused o ≡ true → (out' ≡ out) × (work' ≡ work))
  pub entries_few : IfAnswered (λ entries. entries ≤ 2 * st.numbers.limit) o
  pub output_framed : Beyond (24 * st.numbers.limit) out out'
  pub workspace_framed : Beyond (16 * st.numbers.limit) work work'
  pub audited : (Audited st → ◌≡◌ {A = Netted} (record { outcome = o; output = out'; workspace = work' }) (net_of st a b out work))

pub record UnitsPromise (st : State) (t : ℕ) (o : Outcome ℕ) : Type 0 where
  pub asked : FirstNoRefuses (standing st) o
  pub audited : (Audited st → o ≡ units_of st t)

pub record DifferencePromise (st : State) (a b : ℕ) (o : Outcome ℤ) : Type 0 where
  pub asked : FirstNoRefuses (standing st) o
  pub audited : (Audited st → o ≡ difference_of st a b)
