-- The questions of the later calls in their order (01, "The questions, in order": "The first no stops the call and gives
-- its number alone; lent memory is unchanged"; "a refusal gives them back as they were"): for each call a case where each
-- two neighbouring questions are both answered no, each question answered no alone, and the least that suffices beside one
-- less. A case names every question answered no, so that a reader sees which came first. Queries are in QueryCases.
-- Assumes nothing.
use Prim.Native.Nat.{ℕ}
use mathlib.Core.Path.{◌≡◌, refl}
use mathlib.Core.List.{List, [], ◌∷◌, ◌++◌, map}
use mathlib.Core.Bool.{cond}
use lib.ListN.{get_or, replicate}
use Rattle.model.specs.Answers.{Outcome, answers, refuses, Question}
use Rattle.model.specs.Records.{insertion, deletion}
use Rattle.model.specs.Memory.{State, state, log_of}
use Rattle.model.specs.Starts.{Result, after}
use Rattle.model.specs.Changes.{insert_questions, present_questions, insert_of, delete_of, update_of}
use Rattle.model.specs.Files.{keep_questions, keep_of, drop_questions, drop_of, drop_marked_questions, drop_marked_of}
use Rattle.model.specs.Calls.{fresh, begun}
use Rattle.worked.proofs.Computing.{computing}
use Rattle.worked.proofs.WorkedLog.{worked, entry}
use Rattle.worked.proofs.QuestionOne.{full, unsound, pair}

-- ---- calls, cases, and what a case says

-- a call that may change the store, and its questions
record Ask (A : Type 0) : Type 0 where
  call : State → Result A
  questions : State → List Question

abbrev ins : ℕ → ℕ → Ask Unit
ins t a = record { call = λ st. insert_of st t a 1; questions = λ st. insert_questions st t a }

abbrev del : ℕ → ℕ → Ask Unit
del t a = record { call = λ st. delete_of st t a; questions = λ st. present_questions st t a 1 }

abbrev upd : ℕ → ℕ → ℕ → Ask Unit
upd t a c = record { call = λ st. update_of st t a c; questions = λ st. present_questions st t a 2 }

abbrev keeps : ℕ → ℕ → Ask Unit
keeps t k = record { call = λ st. keep_of st t k; questions = λ st. keep_questions st t k }

abbrev drops : ℕ → Ask Unit
drops t = record { call = λ st. drop_of st t; questions = λ st. drop_questions st t }

-- drop by mark
abbrev clears : ℕ → Ask ℕ
clears k = record { call = λ st. drop_marked_of st k; questions = λ st. drop_marked_questions st k }

-- the numbers of the questions answered no
unfoldable pub noes : List Question → List ℕ
noes [] = []
noes (q ∷ qs) = cond q.yes (noes qs) (q.number ∷ noes qs)

record Case (A : Type 0) : Type 0 where
  ask : Ask A
  store : State
  no : List ℕ

abbrev case : {A : Type 0} → Ask A → State → List ℕ → Case A
case q st ks = record { ask = q; store = st; no = ks }

-- which questions are answered no, and what the call leaves
record Seen (A : Type 0) : Type 0 where
  no : List ℕ
  left : Result A

abbrev seen : {A : Type 0} → Case A → Seen A
seen c = record { no = noes (c.ask.questions c.store); left = c.ask.call c.store }

-- the first number alone, numbers and memory as they were
abbrev expected : {A : Type 0} → Case A → Seen A
expected c = record { no = c.no; left = after (refuses (get_or c.no 0 0)) c.store }

abbrev outcome_on : {A : Type 0} → Ask A → State → Outcome A
outcome_on q st = (q.call st).outcome

-- ---- insert, delete, update

-- 1 6, 6 7, 7 9, 9 10, 10 11; then 6, 7, 9, 10, 11 alone
insert_cases : List (Case Unit)
insert_cases =
    case (ins 0 6) unsound (1 ∷ 6 ∷ 9 ∷ 10 ∷ []) ∷ case (ins 10 5) (full 0 0) (6 ∷ 7 ∷ 9 ∷ 10 ∷ []) ∷ case (ins 11 5) (full 0 0) (7 ∷ 9 ∷ 10 ∷ [])
    ∷ case (ins 11 6) (full 0 0) (9 ∷ 10 ∷ []) ∷ case (ins 21 7) (pair 23 1) (10 ∷ 11 ∷ []) ∷ case (ins 20 7) (pair 24 2) (6 ∷ [])
    ∷ case (ins 21 6) (pair 24 2) (7 ∷ []) ∷ case (ins 11 6) (full 24 2) (9 ∷ []) ∷ case (ins 21 7) (pair 23 2) (10 ∷ []) ∷ case (ins 21 7) (pair 24 1) (11 ∷ []) ∷ []

insert_refused : map seen insert_cases ≡ map expected insert_cases
unfolding computing noes insert_cases
insert_refused = refl

-- 1 6, 6 8, 8 10, 10 11; then 6, 8, 10, 11 alone
delete_cases : List (Case Unit)
delete_cases =
    case (del 0 5) unsound (1 ∷ 6 ∷ 10 ∷ []) ∷ case (del 20 7) (pair 24 2) (6 ∷ 8 ∷ []) ∷ case (del 21 7) (pair 23 2) (8 ∷ 10 ∷ [])
    ∷ case (del 21 5) (pair 23 1) (10 ∷ 11 ∷ []) ∷ case (del 20 5) (pair 24 2) (6 ∷ []) ∷ case (del 21 7) (pair 24 2) (8 ∷ [])
    ∷ case (del 21 5) (pair 23 2) (10 ∷ []) ∷ case (del 21 5) (pair 24 1) (11 ∷ []) ∷ []

delete_refused : map seen delete_cases ≡ map expected delete_cases
unfolding computing noes delete_cases
delete_refused = refl

-- the same of update; "An update with one record's space gives 10", and so do 47 of 48 bytes
update_cases : List (Case Unit)
update_cases =
    case (upd 0 5 1) unsound (1 ∷ 6 ∷ 10 ∷ 11 ∷ []) ∷ case (upd 10 6 1) (full 48 2) (6 ∷ 8 ∷ []) ∷ case (upd 11 6 1) (full 24 2) (8 ∷ 10 ∷ [])
    ∷ case (upd 11 5 1) (full 24 1) (10 ∷ 11 ∷ []) ∷ case (upd 10 5 1) (full 48 2) (6 ∷ []) ∷ case (upd 11 6 1) (full 48 2) (8 ∷ [])
    ∷ case (upd 11 5 1) (full 24 2) (10 ∷ []) ∷ case (upd 11 5 1) (full 47 2) (10 ∷ []) ∷ case (upd 11 5 1) (full 48 1) (11 ∷ []) ∷ []

update_refused : map seen update_cases ≡ map expected update_cases
unfolding computing noes update_cases
update_refused = refl

-- with just enough each is accepted; an update also in a full table, and to the count that is there
enough : (outcome_on (ins 21 7) (pair 24 2) ∷ outcome_on (del 21 5) (pair 24 2) ∷ outcome_on (upd 11 5 1) (full 48 2) ∷ outcome_on (upd 11 5 8) (full 48 2) ∷ []) ≡ replicate 4 (answers tt)
unfolding computing
enough = refl

-- that update is two records
same_count : log_of (update_of (full 48 2) 11 5 8).state ≡ insertion 0 10 5 8 ∷ deletion 1 11 5 8 ∷ insertion 2 11 5 8 ∷ []
unfolding computing
same_count = refl

-- time 0 in an empty store is not above the last
abbrev empty_store : State
empty_store = (begun (fresh 2 2 1 (full 0 0).memory)).state

-- "A fifth live row gives 9", though log and index have space: R = 4, two rows added to the two of 01's log
abbrev roomy : State
roomy =
    let m = worked.memory in
    state worked.numbers (record { log = m.log ++ replicate 96 7; index = m.index; table = m.table; catalogue = m.catalogue; areas = m.areas })

abbrev four_rows : State
four_rows = (insert_of (insert_of roomy 61 1 1).state 62 2 1).state

edge_cases : List (Case Unit)
edge_cases = case (ins 0 6) empty_store (6 ∷ []) ∷ case (ins 63 3) four_rows (9 ∷ []) ∷ []

edge_refused : map seen edge_cases ≡ map expected edge_cases
unfolding computing noes edge_cases
edge_refused = refl

-- an update of a full table is no fifth row
update_of_four : outcome_on (upd 63 1 1) four_rows ≡ answers tt
unfolding computing
update_of_four = refl

-- ---- keep and drop

-- a file of a time after the last: only in memory that the audit denies are 12 and 14 both answered no
abbrev denied : State
denied =
    let m = (full 0 0).memory in
    state (full 0 0).numbers (record { log = m.log; index = m.index; table = m.table; catalogue = entry 11 1 5 ∷ []; areas = m.areas })

-- 1 12, 12 14, 14 15 (time 0, then a kept time, in a full catalogue); then 12, 14, 15 alone; 15 where no entry is lent
keep_cases : List (Case Unit)
keep_cases =
    case (keeps 11 5) unsound (1 ∷ 12 ∷ 15 ∷ []) ∷ case (keeps 11 0) denied (12 ∷ 14 ∷ 15 ∷ []) ∷ case (keeps 0 7) (full 0 0) (14 ∷ 15 ∷ [])
    ∷ case (keeps 10 5) (full 0 0) (14 ∷ 15 ∷ []) ∷ case (keeps 61 7) worked (12 ∷ []) ∷ case (keeps 0 5) worked (14 ∷ [])
    ∷ case (keeps 20 7) (keep_of worked 20 5).state (14 ∷ []) ∷ case (keeps 5 0) (full 0 0) (15 ∷ []) ∷ case (keeps 20 7) (pair 0 0) (15 ∷ []) ∷ []

keep_refused : map seen keep_cases ≡ map expected keep_cases
unfolding computing noes keep_cases
keep_refused = refl

-- no mark that a file may have; the last is the largest that a call can give
abbrev others : List ℕ
others = 1 ∷ 4 ∷ 6 ∷ 8 ∷ 9 ∷ 4294967295 ∷ []

-- "18 in keep, after 12 and before 14, when the mark isn't 0, 5 or 7" (02, wish 3): 1 12 18, 12 18, 18 14 (time 0, then a kept
-- time), 18 15; then 18 alone
wrong_marks : List (Case Unit)
wrong_marks =
    case (keeps 11 9) unsound (1 ∷ 12 ∷ 18 ∷ 15 ∷ []) ∷ case (keeps 10 9) unsound (1 ∷ 18 ∷ 14 ∷ 15 ∷ [])
    ∷ case (keeps 11 6) denied (12 ∷ 18 ∷ 14 ∷ 15 ∷ []) ∷ case (keeps 61 8) worked (12 ∷ 18 ∷ []) ∷ case (keeps 0 1) (full 0 0) (18 ∷ 14 ∷ 15 ∷ [])
    ∷ case (keeps 10 4) (full 0 0) (18 ∷ 14 ∷ 15 ∷ []) ∷ case (keeps 0 6) worked (18 ∷ 14 ∷ []) ∷ case (keeps 20 9) (keep_of worked 20 5).state (18 ∷ 14 ∷ [])
    ∷ case (keeps 5 6) (full 0 0) (18 ∷ 15 ∷ []) ∷ map (λ (k : ℕ). case (keeps 20 k) worked (18 ∷ [])) others

wrong_marks_refused : map seen wrong_marks ≡ map expected wrong_marks
unfolding computing noes wrong_marks
wrong_marks_refused = refl

marks_accepted : map (λ (k : ℕ). outcome_on (keeps 20 k) worked) (0 ∷ 5 ∷ 7 ∷ []) ≡ replicate 3 (answers tt)
unfolding computing
marks_accepted = refl

-- 1 16; then 16 alone: a time not kept, a time after the last, time 0, any time where no file is held
drop_cases : List (Case Unit)
drop_cases =
    case (drops 9) unsound (1 ∷ 16 ∷ []) ∷ case (drops 9) (full 0 0) (16 ∷ []) ∷ case (drops 11) (full 0 0) (16 ∷ []) ∷ case (drops 0) (full 0 0) (16 ∷ [])
    ∷ case (drops 20) worked (16 ∷ []) ∷ []

drop_refused : map seen drop_cases ≡ map expected drop_cases
unfolding computing noes drop_cases
drop_refused = refl

-- a time before the first request, one between requests and the last may be kept, with each mark; a kept one dropped
kept-times : (outcome_on (keeps 5 0) worked ∷ outcome_on (keeps 25 5) worked ∷ outcome_on (keeps 60 7) worked ∷ outcome_on (drops 10) (full 0 0) ∷ [])
    ≡ replicate 4 (answers tt)
unfolding computing
kept-times = refl

-- ---- drop by mark

-- "18 in the marked deletion, after 1, when it isn't 5 or 7" (02, wish 3): 1 18, and 1 alone; then 18 alone, of mark 0 too, with
-- and without such a file
clear_cases : List (Case ℕ)
clear_cases =
    case (clears 9) unsound (1 ∷ 18 ∷ []) ∷ case (clears 5) unsound (1 ∷ []) ∷ case (clears 0) worked (18 ∷ [])
    ∷ case (clears 0) (keep_of worked 20 0).state (18 ∷ []) ∷ map (λ (k : ℕ). case (clears k) (full 0 0) (18 ∷ [])) (0 ∷ others)

clear_refused : map seen clear_cases ≡ map expected clear_cases
unfolding computing noes clear_cases
clear_refused = refl

-- 5 and 7 are accepted, and "none is a fine answer"
cleared : (outcome_on (clears 5) (full 0 0) ∷ outcome_on (clears 7) (full 0 0) ∷ outcome_on (clears 5) worked ∷ outcome_on (clears 7) (pair 0 0) ∷ [])
    ≡ answers 1 ∷ answers 0 ∷ answers 0 ∷ answers 0 ∷ []
unfolding computing
cleared = refl
