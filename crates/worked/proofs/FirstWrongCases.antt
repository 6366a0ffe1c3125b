-- The record number at 17, computed (02, wish 4: "the smallest k such that records 0 to k begin no legal log, or n if only the
-- header's last time is wrong"), on 01's log and on small ones. Assumes nothing.
use Prim.Native.Nat.{ℕ, suc, ◌-◌}
use mathlib.Core.Path.{◌≡◌, refl, sym, ◌∙◌}
use mathlib.Core.Logic.{inl}
use mathlib.Core.List.{List, [], ◌∷◌, ◌++◌, map}
use mathlib.Core.Bool.{Bool, true, false, false≢true}
use native.Mathlib.Omega.{arith}
use lib.ListN.{set, take, replicate}
use lib.Dec.{lit<}
use Rattle.model.specs.Answers.{Outcome, answers, refuses_at}
use Rattle.model.specs.Records.{Rec, insertion, deletion, records_of}
use Rattle.model.specs.Legal.{legal}
use Rattle.model.specs.Memory.{Memory}
use Rattle.model.specs.Starts.{open_of}
use Rattle.model.specs.FirstWrong.{FirstWrongAt, WrongRecord}
use Rattle.model.proofs.FirstWrongLaws.{begin_iff_legal, first_wrong_is_one, tells_first_wrong}
use Rattle.worked.proofs.Computing.{computing}
use Rattle.worked.proofs.WorkedLog.{worked_records, entry}
use Rattle.worked.proofs.StartCases.{log_with}

-- foreign memory of 6 words and 4 rows, with a log of order 3, two records a page
abbrev lent : (R n last : ℕ) → List Rec → Memory
lent R n last rs =
    record { log = log_with 3 2 R n last rs; index = replicate 6 555; table = replicate 32 5; catalogue = entry 1 2 9 ∷ []; areas = replicate 32 9 }

abbrev opened : (R n last : ℕ) → List Rec → Outcome Unit
opened R n last rs = (open_of (lent R n last rs)).outcome

-- ---- 01's log, damaged

-- 01's log with these records, the last time that the header has, and the number that 17 tells
record Damaged : Type 0 where
  records : List Rec
  last : ℕ
  number : ℕ

abbrev damaged : List Rec → ℕ → ℕ → Damaged
damaged rs last k = record { records = rs; last = last; number = k }

-- with record k another one
abbrev with : ℕ → Rec → List Rec
with k r = set worked_records k r

damages : List Damaged
damages =
    -- the first record wrong; the last
    damaged (with 0 (deletion 0 10 7 50)) 60 0 ∷ damaged (with 7 (insertion 7 60 8 6)) 60 7
    -- two wrong records, far apart and next to each other
    ∷ damaged (set (with 1 (insertion 9 20 3 12)) 7 (insertion 9 60 9 6)) 60 1 ∷ damaged (set (with 4 (deletion 4 40 3 13)) 5 (insertion 5 39 9 5)) 60 4
    -- a wrong record and a wrong last time
    ∷ damaged (with 3 (insertion 3 29 7 44)) 61 3 ∷ damaged (with 7 (insertion 7 59 9 6)) 0 7
    -- only the last time wrong
    ∷ damaged worked_records 61 8 ∷ damaged worked_records 0 8
    -- an insertion damaged in count or article is legal, and the deletion of its row is wrong: a plain one, and an update's
    ∷ damaged (with 1 (insertion 1 20 3 13)) 60 4 ∷ damaged (with 1 (insertion 1 20 4 12)) 60 4 ∷ damaged (with 0 (insertion 0 10 7 51)) 60 2
    ∷ damaged (with 5 (insertion 5 50 8 5)) 60 6 ∷ []

told : map (λ (q : Damaged). opened 4 8 q.last q.records) damages ≡ map (λ (q : Damaged). refuses_at 17 q.number) damages
unfolding computing damages
told = refl

-- the fronts before that number are legal, and from it on none is
fronts : List Rec → List Bool
fronts rs = map (λ k. legal 4 (take (suc k) rs)) (0 ∷ 1 ∷ 2 ∷ 3 ∷ 4 ∷ 5 ∷ 6 ∷ 7 ∷ [])

fronts_are : map (λ (q : Damaged). fronts q.records) damages ≡ map (λ (q : Damaged). replicate q.number true ++ replicate (8 - q.number) false) damages
unfolding computing damages fronts
fronts_are = refl

-- damage after which the log is legal is none that an opening can tell: a count that nothing repeats, a time between two others
unseen : (opened 4 8 60 (with 3 (insertion 3 30 7 45)) ∷ opened 4 8 60 (with 1 (insertion 1 21 3 12)) ∷ []) ≡ answers tt ∷ answers tt ∷ []
unfolding computing
unseen = refl

-- ---- small logs

-- no record and a last time; a record wrong in its form; a second live row where R = 1
wrong_numbers : (opened 1 0 5 [] ∷ opened 1 2 20 (insertion 0 10 5 8 ∷ record { size = 24; kind = 4; id = 1; time = 20; article = 5; count = 8 } ∷ [])
    ∷ opened 1 2 20 (insertion 0 10 5 8 ∷ insertion 1 20 6 8 ∷ []) ∷ [])
    ≡ refuses_at 17 0 ∷ refuses_at 17 1 ∷ refuses_at 17 1 ∷ []
unfolding computing
wrong_numbers = refl

-- none after the header's n is looked at; a header that cuts an update in half is a plain deletion's
cut_short : (opened 1 1 10 (insertion 0 10 5 8 ∷ insertion 9 9 9 9 ∷ []) ∷ opened 1 2 20 (insertion 0 10 5 8 ∷ deletion 1 20 5 8 ∷ insertion 2 20 5 9 ∷ []) ∷ [])
    ≡ answers tt ∷ answers tt ∷ []
unfolding computing
cut_short = refl

-- ---- 01 allows more

-- 01's log with records 1 and 7 wrong: 01's looser property has 6 for its number too, a record far behind the damage; the wish
-- has 1 and no other
abbrev twice : Memory
twice = lent 4 8 60 (set (with 1 (insertion 9 20 3 12)) 7 (insertion 9 60 9 6))

first_is-1 : FirstWrongAt twice.log 1
unfolding computing
first_is-1 = ((tells_first_wrong twice 1).0 refl).1

six_by-01 : WrongRecord twice.log 6
unfolding computing
six_by-01 =
    let no : legal 4 (records_of twice.log 7) ≡ false = refl in
    inl (lit< tt, λ b. false≢true (sym no ∙ (begin_iff_legal 4 (records_of twice.log 7)).0 b))

not_by_the_wish : FirstWrongAt twice.log 6 → ⊥
not_by_the_wish h =
    let no : ◌≡◌ {A = ℕ} 1 6 = first_wrong_is_one twice.log 1 6 first_is-1 h in
    absurd (omega arith)
