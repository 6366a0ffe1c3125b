-- Keep, drop and drop by mark (02, wish 3), computed on the stores of FileStores. Assumes nothing.
use Prim.Native.Nat.{ℕ}
use mathlib.Core.Path.{◌≡◌, refl}
use mathlib.Core.List.{[], ◌∷◌, ◌++◌, map}
use lib.ListN.{replicate}
use Rattle.codec.specs.Parts.{zeros}
use Rattle.model.specs.declared.Place.TheVariants.{Area}
use Rattle.model.specs.Answers.{answers, refuses}
use Rattle.model.specs.Memory.{State, state, no_entry}
use Rattle.model.specs.Outset.{outset_for}
use Rattle.model.specs.Starts.{after}
use Rattle.model.specs.Files.{files_of, keep_of, drop_of, drop_marked_of}
use Rattle.model.specs.Demands.{marks_at, held_after}
use Rattle.model.specs.Calls.{Call}
use Rattle.model.proofs.FileStores.{marking, numbers, row, file, with, four, friday, sunday}

-- ---- drop by mark: the neighbours, then the first, then none

marked-friday : drop_marked_of four 5 ≡ after (answers 2) friday
unfolding marking
marked-friday = refl

marked-sunday : drop_marked_of friday 7 ≡ after (answers 1) sunday
unfolding marking
marked-sunday = refl

-- "none is a fine answer"
marked-none : (drop_marked_of friday 5 ∷ drop_marked_of sunday 7 ∷ []) ≡ after (answers 0) friday ∷ after (answers 0) sunday ∷ []
unfolding marking
marked-none = refl

-- "Deleting 7 takes no 5 along": the others move down, and the last area set free is zero
marked_first : drop_marked_of four 7
    ≡ after (answers 1) (with 3 (file 20 5 ∷ file 30 5 ∷ file 40 0 ∷ replicate 2 no_entry) (row 9 ++ (row 6 ++ (row 4 ++ (zeros 8 ++ replicate 8 1)))))
unfolding marking
marked_first = refl

-- 18 after 1, "when it isn't 5 or 7"
marked_refused : map (drop_marked_of four) (0 ∷ 6 ∷ 4 ∷ 8 ∷ 12 ∷ []) ≡ replicate 5 (after (refuses 18) four)
unfolding marking
marked_refused = refl

abbrev short : State
short = state (numbers 6) four.memory

marked-unsound : (drop_marked_of short 9 ∷ drop_marked_of short 5 ∷ []) ≡ replicate 2 (after (refuses 1) short)
unfolding marking
marked-unsound = refl

-- ---- drop, on every mark

dropped : (drop_of four 20 ∷ drop_of four 40 ∷ drop_of friday 10 ∷ [])
    ≡ after (answers tt) (with 3 (file 10 7 ∷ file 30 5 ∷ file 40 0 ∷ replicate 2 no_entry) (row 8 ++ (row 6 ++ (row 4 ++ (zeros 8 ++ replicate 8 1)))))
    ∷ after (answers tt) (with 3 (file 10 7 ∷ file 20 5 ∷ file 30 5 ∷ replicate 2 no_entry) (row 8 ++ (row 9 ++ (row 6 ++ (zeros 8 ++ replicate 8 1)))))
    ∷ after (answers tt) sunday ∷ []
unfolding marking
dropped = refl

-- ---- keep: each file has the mark it was kept with, and those behind it keep theirs

kept : (keep_of friday 20 5 ∷ keep_of friday 30 0 ∷ [])
    ≡ after (answers tt) (with 3 (file 10 7 ∷ file 20 5 ∷ file 40 0 ∷ replicate 2 no_entry) (row 8 ++ (row 9 ++ (row 4 ++ (zeros 8 ++ replicate 8 1)))))
    ∷ after (answers tt) (with 3 (file 10 7 ∷ file 30 0 ∷ file 40 0 ∷ replicate 2 no_entry) (row 8 ++ (row 6 ++ (row 4 ++ (zeros 8 ++ replicate 8 1))))) ∷ []
unfolding marking
kept = refl

kept-sunday : keep_of sunday 10 7 ≡ after (answers tt) (with 2 (file 10 7 ∷ file 40 0 ∷ replicate 3 no_entry) (row 8 ++ (row 4 ++ (zeros 16 ++ replicate 8 1))))
unfolding marking
kept-sunday = refl

-- no entry is free
abbrev pub full : State
full = with 5 (file 10 7 ∷ file 20 5 ∷ file 30 5 ∷ file 35 0 ∷ file 40 0 ∷ []) (row 8 ++ (row 9 ++ (row 6 ++ (row 6 ++ row 4))))

-- 12 before 18; 18 before 14, of time 0 and of a time kept; 18 before 15; then 14, then 15
keep_refused : (keep_of four 41 9 ∷ keep_of four 0 9 ∷ keep_of four 40 6 ∷ keep_of four 0 5 ∷ keep_of four 40 7 ∷ [])
    ≡ map (λ (k : ℕ). after (refuses k) four) (12 ∷ 18 ∷ 18 ∷ 14 ∷ 14 ∷ [])
unfolding marking
keep_refused = refl

keep_full : (keep_of full 15 8 ∷ keep_of full 20 7 ∷ keep_of full 15 7 ∷ []) ≡ map (λ (k : ℕ). after (refuses k) full) (18 ∷ 14 ∷ 15 ∷ [])
unfolding marking
keep_full = refl

-- ---- the outset used, whatever the marks

outsets : map (λ (t : ℕ). (outset_for four t).outset.place) (10 ∷ 25 ∷ 30 ∷ 40 ∷ []) ≡ Area 0 ∷ Area 1 ∷ Area 2 ∷ Area 3 ∷ []
unfolding marking
outsets = refl

-- ---- held with its mark from a keep on

-- kept again with another mark after its deletion
held : map (λ (t : ℕ). held_after t (marks_at t (files_of friday)) friday (Call.keep 20 5 ∷ Call.keep 20 7 ∷ Call.drop_marked 7 ∷ Call.keep 30 7 ∷ Call.drop 30 ∷ Call.keep 30 5 ∷ Call.drop_marked 6 ∷ [])) (10 ∷ 20 ∷ 30 ∷ 35 ∷ 40 ∷ [])
    ≡ [] ∷ (5 ∷ []) ∷ (5 ∷ []) ∷ [] ∷ (0 ∷ []) ∷ []
unfolding marking
held = refl
