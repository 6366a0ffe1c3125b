-- Lists of calls on 01's log: what each of the thirteen calls answers with 20 kept, and of which times a file is held, with which
-- mark, along keeps, drops and drops by mark. Refusals told apart. Rows of the report's set. Assumes nothing.
use Prim.Native.Nat.{ℕ, zero, suc, ◌≤◌, ◌<◌}
use mathlib.Core.Path.{◌≡◌, refl, ap}
use mathlib.Core.List.{List, [], ◌∷◌, ◌++◌, map}
use mathlib.Core.Bool.{true, false}
use native.Mathlib.Omega.{arith}
use lib.ListN.{get_or, replicate}
use lib.IntN.{negsuc}
use Rattle.model.specs.declared.Side.TheVariants.{Earlier}
use Rattle.model.specs.declared.Place.TheVariants.{Area}
use Rattle.model.specs.Answers.{Outcome, answers, refuses, refuses_at, question, first_no}
use Rattle.model.specs.Records.{no_record}
use Rattle.model.specs.Rows.{Row, row}
use Rattle.model.specs.Timeslice.{InReport}
use Rattle.model.specs.Memory.{State, state, standing}
use Rattle.model.specs.Queries.{position_of}
use Rattle.model.specs.Files.{files_of, is_kept, keep_questions, keep_of, drop_of}
use Rattle.model.specs.Changes.{insert_questions, insert_of}
use Rattle.model.specs.Promises.{is_refused, FirstNoRefuses, refused_among, by_one_of, AppendAsked}
use Rattle.model.specs.Calls.{Call, run, changed, positioned, written, viewed, netted, totalled, differed, cleared, audited, answer_of}
use Rattle.model.specs.Demands.{marks_at, held_next, held_after, HeldWith}
use Rattle.model.proofs.HeldFiles.{kept_iff_held}
use Rattle.worked.proofs.Computing.{computing}
use Rattle.worked.proofs.WorkedLog.{worked_records, worked, located, table20, table45, change20to45, told, changes, seen}
use Rattle.worked.proofs.WorkedStore.{kept20}
use Rattle.worked.proofs.QuestionOne.{unsound}

-- ---- what each call answers

-- with 20 kept, marked 5, and log space for two records more
abbrev pub roomy : State
roomy =
    let m = kept20.memory in
    state kept20.numbers (record { log = m.log ++ replicate 45 7; index = m.index; table = m.table; catalogue = m.catalogue; areas = m.areas })

each_answers : map (answer_of roomy)
    (Call.insert 61 3 5 ∷ Call.insert 61 7 5 ∷ Call.delete 61 7 ∷ Call.delete 61 3 ∷ Call.update 61 9 8 ∷ Call.update 60 9 8 ∷ Call.position 35 ∷ Call.position 61
    ∷ Call.table 45 (replicate 33 77) ∷ Call.view 20 ∷ Call.net_change 20 45 (replicate 97 77) (replicate 65 77) ∷ Call.units 45 ∷ Call.units 61
    ∷ Call.difference 20 45 ∷ Call.difference 20 61 ∷ Call.keep 40 5 ∷ Call.keep 40 7 ∷ Call.keep 40 0 ∷ Call.keep 20 7 ∷ Call.keep 61 5
    ∷ Call.keep 40 9 ∷ Call.drop 20 ∷ Call.drop 40 ∷ Call.drop_marked 5 ∷ Call.drop_marked 7 ∷ Call.drop_marked 0 ∷ Call.audit ∷ [])
    ≡ changed (answers tt) ∷ changed (refuses 7) ∷ changed (answers tt) ∷ changed (refuses 8) ∷ changed (answers tt) ∷ changed (refuses 6) ∷ positioned (located 1 4)
    ∷ positioned (located 3 8) ∷ written (told 1 Earlier 3 table45)
    ∷ viewed (seen (Area 0) 2 Earlier 0 (3 ∷ 0 ∷ 0 ∷ 0 ∷ 12 ∷ 0 ∷ 0 ∷ 0 ∷ 7 ∷ 0 ∷ 0 ∷ 0 ∷ 50 ∷ 0 ∷ 0 ∷ 0 ∷ []))
    ∷ netted (changes 3 change20to45 (table20 ++ table45)) ∷ totalled (answers 44) ∷ totalled (answers 50) ∷ differed (answers (negsuc 17))
    ∷ differed (answers (negsuc 11)) ∷ changed (answers tt) ∷ changed (answers tt) ∷ changed (answers tt) ∷ changed (refuses 14) ∷ changed (refuses 12)
    ∷ changed (refuses 18) ∷ changed (answers tt) ∷ changed (refuses 16) ∷ cleared (answers 1) ∷ cleared (answers 0) ∷ cleared (refuses 18) ∷ audited true ∷ []
unfolding computing
each_answers = refl

-- an audit says no to a live row more than R
audit_denies : answer_of unsound Call.audit ≡ audited false
unfolding computing
audit_denies = refl

-- ---- files held

-- two files fill the catalogue, so the keep of 50 is refused, as is the drop of 30, which is not kept
abbrev filed : List Call
filed = Call.keep 20 7 ∷ Call.keep 40 5 ∷ Call.keep 50 0 ∷ Call.insert 55 1 1 ∷ Call.drop 20 ∷ Call.drop 30 ∷ []

-- the marks due at each of these times: none where no file is held
abbrev due : List Call → List (List ℕ)
due cs = map (λ (t : ℕ). held_after t [] worked cs) (20 ∷ 30 ∷ 40 ∷ 50 ∷ [])

held_along : due filed ≡ [] ∷ [] ∷ (5 ∷ []) ∷ [] ∷ []
unfolding computing
held_along = refl

-- before the drop both were held
held-before : due (Call.keep 20 7 ∷ Call.keep 40 5 ∷ Call.keep 50 0 ∷ []) ≡ (7 ∷ []) ∷ [] ∷ (5 ∷ []) ∷ [] ∷ []
unfolding computing
held-before = refl

-- drops by 0 and by 9 are refused and end nothing; then one by 7 ends the file of 20 alone, or one by 5 that of 40
abbrev marked : List Call
marked = Call.keep 20 7 ∷ Call.keep 40 5 ∷ Call.drop_marked 0 ∷ Call.drop_marked 9 ∷ []

held-marked : map due (marked ∷ (marked ++ (Call.drop_marked 7 ∷ [])) ∷ (marked ++ (Call.drop_marked 5 ∷ [])) ∷ [])
    ≡ ((7 ∷ []) ∷ [] ∷ (5 ∷ []) ∷ [] ∷ []) ∷ ([] ∷ [] ∷ (5 ∷ []) ∷ [] ∷ []) ∷ ((7 ∷ []) ∷ [] ∷ [] ∷ [] ∷ []) ∷ []
unfolding computing
held-marked = refl

-- 20 goes by 7 and is kept again, for good: neither the drops that follow nor a refused keep changes its mark; 40 goes by 5
abbrev again : List Call
again = marked ++ (Call.drop_marked 7 ∷ Call.keep 20 0 ∷ Call.drop_marked 7 ∷ Call.keep 20 5 ∷ Call.drop_marked 5 ∷ [])

held-again : due again ≡ (0 ∷ []) ∷ [] ∷ [] ∷ [] ∷ []
unfolding computing
held-again = refl

-- and so the catalogue says
files_say : map (λ (t : ℕ). is_kept t (files_of (run worked filed))) (20 ∷ 30 ∷ 40 ∷ 50 ∷ []) ≡ false ∷ false ∷ true ∷ false ∷ []
unfolding computing
files_say = refl

marks_say : map (λ (cs : List Call). map (λ (t : ℕ). marks_at t (files_of (run worked cs))) (20 ∷ 30 ∷ 40 ∷ 50 ∷ [])) (filed ∷ marked ∷ again ∷ [])
    ≡ ([] ∷ [] ∷ (5 ∷ []) ∷ [] ∷ []) ∷ ((7 ∷ []) ∷ [] ∷ (5 ∷ []) ∷ [] ∷ []) ∷ ((0 ∷ []) ∷ [] ∷ [] ∷ [] ∷ []) ∷ []
unfolding computing
marks_say = refl

-- as demand 3 has it: a file with mark 0 is held, and where no mark is due no file
held_for_good : HeldWith 20 (run worked again) (0 ∷ [])
unfolding computing
held_for_good = record { marks = refl; kept = refl; outset = kept_iff_held (run worked again) 20 }

held_no_more : HeldWith 40 (run worked again) []
unfolding computing
held_no_more = record { marks = refl; kept = refl; outset = kept_iff_held (run worked again) 40 }

-- a refused drop ends nothing, a refused keep begins nothing, and another time's calls neither
held_next_lem : (held_next 20 (5 ∷ []) worked (Call.drop 20) ∷ held_next 61 [] worked (Call.keep 61 5) ∷ held_next 20 (5 ∷ []) kept20 (Call.drop 20)
    ∷ held_next 40 (5 ∷ []) kept20 (Call.drop 20) ∷ held_next 40 [] kept20 (Call.keep 40 7) ∷ held_next 30 [] kept20 (Call.keep 40 7)
    ∷ held_next 40 [] kept20 (Call.keep 40 9) ∷ [])
    ≡ (5 ∷ []) ∷ [] ∷ [] ∷ (5 ∷ []) ∷ (7 ∷ []) ∷ [] ∷ [] ∷ []
unfolding computing
held_next_lem = refl

-- a drop by mark ends the files of its mark, whatever their time, unless it is refused, by 18 or by 1
held_next_marked : (held_next 20 (5 ∷ []) kept20 (Call.drop_marked 5) ∷ held_next 40 (5 ∷ []) kept20 (Call.drop_marked 5)
    ∷ held_next 20 (5 ∷ []) kept20 (Call.drop_marked 7) ∷ held_next 20 (0 ∷ []) kept20 (Call.drop_marked 0) ∷ held_next 10 (5 ∷ []) unsound (Call.drop_marked 5) ∷ [])
    ≡ [] ∷ [] ∷ (5 ∷ []) ∷ (0 ∷ []) ∷ (5 ∷ []) ∷ []
unfolding computing
held_next_marked = refl

-- ---- refusals

refused_or_not : (is_refused {A = Unit} (answers tt) ∷ is_refused {A = Unit} (refuses 1) ∷ is_refused {A = Unit} (refuses_at 17 0) ∷ is_refused (drop_of worked 20).outcome ∷ [])
    ≡ false ∷ true ∷ true ∷ true ∷ []
unfolding computing
refused_or_not = refl

-- by which of these questions, however they are answered
abbrev among : Outcome Unit → ℕ
among o = refused_among (question 1 true ∷ question 12 false ∷ question 17 true ∷ []) o

refused_among_lem : (among (answers tt) ∷ among (refuses 1) ∷ among (refuses 12) ∷ among (refuses 13) ∷ among (refuses_at 17 4) ∷ among (refuses 0) ∷ [])
    ≡ 0 ∷ 1 ∷ 12 ∷ 0 ∷ 17 ∷ 0 ∷ []
unfolding computing
refused_among_lem = refl

-- by one of the questions of an insertion, whatever they come to; a record number is told by none of them
own : map (λ (o : Outcome Unit). by_one_of (insert_questions worked 61 7) o) (answers tt ∷ refuses 1 ∷ refuses 7 ∷ refuses 11 ∷ refuses 8 ∷ refuses 12 ∷ refuses_at 7 0 ∷ [])
    ≡ true ∷ true ∷ true ∷ true ∷ false ∷ false ∷ false ∷ []
unfolding computing
own = refl

-- question 1 answered no; none, for a time after the last and for the last
asked-unsound : FirstNoRefuses (standing unsound) (position_of unsound 11) × (first_no (standing unsound) ≡ 1)
unfolding computing
asked-unsound = (refl, refl)

asked-late : FirstNoRefuses (standing worked) (position_of worked 61) × (first_no (standing worked) ≡ 0)
unfolding computing
asked-late = (refl, refl)

-- a keep, which may be refused by 12; an insertion, which is not
asked_keep : FirstNoRefuses (keep_questions worked 61 5) (keep_of worked 61 5).outcome × (first_no (keep_questions worked 61 5) ≡ 12)
unfolding computing
asked_keep = (refl, refl)

asked_insert : AppendAsked worked (insert_questions worked 61 7) (insert_of worked 61 7 5).outcome
unfolding computing
asked_insert = record { standing_first = refl; own = refl }

-- ---- the report's set

-- 7:44 of time 30 is in the set for 45: the deletion of 7 is of time 30 too, which is no later time
in_report : InReport 45 (row 7 44) worked_records
in_report = record { place = 3; in_log = omega arith; inserts = refl; at_or_before = omega arith; row_is = refl; not_countered = later }
  where
    later : (u : ℕ) → u < 8 → (get_or worked_records u no_record).article ≡ 7 → 30 < (get_or worked_records u no_record).time → (get_or worked_records u no_record).time ≤ 45 → ⊥
    later zero h e a l = omega arith
    later (suc zero) h e a l = omega arith
    later (suc (suc zero)) h e a l = omega arith
    later (suc (suc (suc zero))) h e a l = omega arith
    later (suc (suc (suc (suc zero)))) h e a l = omega arith
    later (suc (suc (suc (suc (suc zero))))) h e a l = omega arith
    later (suc (suc (suc (suc (suc (suc zero)))))) h e a l = omega arith
    later (suc (suc (suc (suc (suc (suc (suc zero))))))) h e a l = omega arith
    later (suc (suc (suc (suc (suc (suc (suc (suc u)))))))) h e a l = omega arith

-- 7:50 of time 10 is not: 7 was deleted at time 30
not_in_report : InReport 45 (row 7 50) worked_records → ⊥
not_in_report g = by g.place g.in_log g.inserts (ap (λ (q : Row). q.count) g.row_is) g.not_countered
  where
    by : (p : ℕ) → p < 8 → (get_or worked_records p no_record).kind ≡ 2 → (get_or worked_records p no_record).count ≡ 50
        → ((u : ℕ) → u < 8 → (get_or worked_records u no_record).article ≡ (get_or worked_records p no_record).article
        → (get_or worked_records p no_record).time < (get_or worked_records u no_record).time → (get_or worked_records u no_record).time ≤ 45 → ⊥) → ⊥
    by zero h k c n = n 2 (omega arith) refl (omega arith) (omega arith)
    by (suc zero) h k c n = omega arith
    by (suc (suc zero)) h k c n = omega arith
    by (suc (suc (suc zero))) h k c n = omega arith
    by (suc (suc (suc (suc zero)))) h k c n = omega arith
    by (suc (suc (suc (suc (suc zero))))) h k c n = omega arith
    by (suc (suc (suc (suc (suc (suc zero)))))) h k c n = omega arith
    by (suc (suc (suc (suc (suc (suc (suc zero))))))) h k c n = omega arith
    by (suc (suc (suc (suc (suc (suc (suc (suc p)))))))) h k c n = omega arith
