-- More files, no more requests (02, wish 9): "For one log and one wanted time, a store holding a larger set of count files reports no
-- more requests between outset and time than one holding a part of that set". Of the choice of outset in every memory, and of
-- what calls answer after lists of calls. Assumes nothing.
use Rattle.std.specs.Prelude.{ℕ, ◌*◌, ◌≤◌, ◌≡◌, List, true, length}
use Rattle.model.specs.Answers.{Outcome, answers, TableSaid, OutsetSaid}
use Rattle.model.specs.Memory.{State, log_of}
use Rattle.model.specs.Outset.{outset_for}
use Rattle.model.specs.Queries.{Written, Viewed}
use Rattle.model.specs.Files.{files_of, is_kept}
use Rattle.model.specs.Calls.{Start, StartFits, begun, Call, AllFit, Said, written, viewed, answer_of, Accepted}
use Rattle.model.specs.Chains.{Carried, RanFrom}
use Rattle.model.specs.Demands.{left, OneLog}

-- "a larger set": every time that the one holds a count file of, the other holds one of; the same set included
abbrev pub HoldsEvery : State → State → Type 0
HoldsEvery more fewer = (t : ℕ) → is_kept t (files_of fewer) ≡ true → is_kept t (files_of more) ≡ true

-- of the outset used, for two stores with the same records and last time, in every memory
abbrev pub NoFarther : Type 0
NoFarther =
    (more fewer : State) → log_of more ≡ log_of fewer → more.numbers.last ≡ fewer.numbers.last → HoldsEvery more fewer
    → (t : ℕ) → t ≤ more.numbers.last → (outset_for more t).between ≤ (outset_for fewer t).between

-- ---- what is answered

-- the call is accepted, and n is what it tells
pub record Tells {A : Type 0} (told : A → ℕ) (n : ℕ) (o : Outcome A) : Type 0 where
  pub said : A
  pub answered : o ≡ answers said
  pub is : told said ≡ n

-- what a call on a store answers: by its definition
abbrev pub Defined : State → Call → Said → Type 0
Defined st c said = said ≡ answer_of st c

-- by a way of making calls, whatever it leaves
pub record AnsweredBy (Made : State → Call → Said → State → Type 0) (st : State) (c : Call) (said : Said) : Type 0 where
  pub after : State
  pub made : Made st c said after

-- n is the requests between that every table for t, whatever its output, and every view for t report
pub record Reports (Answered : State → Call → Said → Type 0) (st : State) (t n : ℕ) : Type 0 where
  pub tables : (out : List ℕ) (table : Written TableSaid) → 8 * st.numbers.limit ≤ length out → Answered st (Call.table t out) (written table)
      → Tells (λ (said : TableSaid). said.between) n table.outcome
  pub views : (view : Viewed) → Answered st (Call.view t) (viewed view) → Tells (λ (said : OutsetSaid). said.between) n view.outcome

pub record NoMoreRequests (Answered : State → Call → Said → Type 0) (more fewer : State) (t : ℕ) : Type 0 where
  pub here : ℕ
  pub there : ℕ
  pub reported : Reports Answered more t here
  pub reported' : Reports Answered fewer t there
  pub no_more : here ≤ there

-- of stores left by any two lists of calls, for every time
abbrev pub KeepingMore : Type 0
KeepingMore =
    (s s' : Start) (cs cs' : List Call) → StartFits s → StartFits s' → AllFit cs → AllFit cs' → Accepted (begun s) → Accepted (begun s')
    → OneLog (left s cs) (left s' cs') → HoldsEvery (left s cs) (left s' cs') → (t : ℕ) → NoMoreRequests Defined (left s cs) (left s' cs') t

-- and of calls that are made
abbrev pub KeepingMoreBy : (From : Start → List Call → State → Type 0) (Made : State → Call → Said → State → Type 0) → Type 0
KeepingMoreBy From Made =
    (s s' : Start) (cs cs' : List Call) (st st' : State) → StartFits s → StartFits s' → AllFit cs → AllFit cs'
    → From s cs st → From s' cs' st' → OneLog st st' → HoldsEvery st st' → (t : ℕ) → NoMoreRequests (AnsweredBy Made) st st' t

abbrev pub CodeKeepingMore : Type 0
CodeKeepingMore = KeepingMoreBy RanFrom Carried
