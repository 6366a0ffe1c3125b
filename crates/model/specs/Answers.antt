-- What a call answers, in 01's numbers and values: `Outcome`, and the definition that gives what src/ answers, a value or a
-- refusal, its outcome ("When an answer is an enum, a definition gives this paper's number and values for each of its cases").
-- Promises speak of outcomes. Assumes nothing.
use Rattle.std.specs.Prelude.{ℕ, zero, suc, List, [], ◌∷◌, Bool, false, cond, ◌||◌, eqb, Result, Ok, Err}
use Rattle.model.specs.declared.Refusal.{Refusal}
use Rattle.model.specs.declared.Refusal.TheVariants.{Header, Order, PageSize, RowLimit, Memory, TimeNotAbove, ArticlePresent, ArticleAbsent, RowsFull, LogFull, IndexFull, TimeAfterLast, OutputShort, NotToKeep, CatalogueFull, NotKept, WrongRecord, WrongMark}
-- "Each table answer gives the number of rows, the side and the page distance", and now "requests between in place of
-- page distance"; a view's answer says besides where the rows lie
pub use Rattle.model.specs.declared.TableSaid.{TableSaid}
pub use Rattle.model.specs.declared.OutsetSaid.{OutsetSaid}

-- "The first no stops the call and gives its number alone"; 17 comes "with a record number"
pub data Outcome (A : Type 0) : Type 0 where
  answers : A → Outcome A
  refuses : ℕ → Outcome A
  refuses_at : ℕ → ℕ → Outcome A

-- the number of each refusal
unfoldable pub refusal : {A : Type 0} → Refusal → Outcome A
refusal Header = refuses 1
refusal Order = refuses 2
refusal PageSize = refuses 3
refusal RowLimit = refuses 4
refusal Memory = refuses 5
refusal TimeNotAbove = refuses 6
refusal ArticlePresent = refuses 7
refusal ArticleAbsent = refuses 8
refusal RowsFull = refuses 9
refusal LogFull = refuses 10
refusal IndexFull = refuses 11
refusal TimeAfterLast = refuses 12
refusal OutputShort = refuses 13
refusal NotToKeep = refuses 14
refusal CatalogueFull = refuses 15
refusal NotKept = refuses 16
refusal (WrongRecord k) = refuses_at 17 k.0
refusal WrongMark = refuses 18

-- ---- questions

-- a question with its number
pub record Question : Type 0 where
  pub number : ℕ
  pub yes : Bool

abbrev pub question : ℕ → Bool → Question
question k b = record { number = k; yes = b }

-- the number of the first question answered no, 0 if there is none
unfoldable pub first_no : List Question → ℕ
first_no [] = 0
first_no (q ∷ qs) = cond q.yes (first_no qs) q.number

-- one of the questions has number k
unfoldable pub asks : ℕ → List Question → Bool
asks k [] = false
asks k (q ∷ qs) = eqb q.number k || asks k qs

-- what is done where no question is answered no, else the refusal
abbrev pub unless_no : {A : Type 0} → ℕ → A → (ℕ → A) → A
unless_no zero done refused = done
unless_no (suc k) done refused = refused (suc k)

-- ---- the answers

-- what src/ answers: a value, or the refusal
abbrev pub Answer : Type 0 → Type 0
Answer A = Result A Refusal

abbrev pub outcome_of : {A : Type 0} → Answer A → Outcome A
outcome_of (Ok x) = answers x
outcome_of (Err why) = refusal why
