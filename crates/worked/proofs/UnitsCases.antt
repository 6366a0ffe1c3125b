-- Units on hand (02, wish 1), computed on the calls' definitions: 01's log time by time, in both ways, and an empty log; totals
-- that agree though the tables do not; an update; counts past 32 bits; a store emptied again. Assumes nothing.
use Prim.Native.Nat.{ℕ}
use mathlib.Core.Path.{◌≡◌, refl}
use mathlib.Core.List.{[], ◌∷◌, map}
use mathlib.Core.Bool.{false}
use lib.ListN.{replicate}
use lib.IntN.{ℤ, pos, negsuc}
use Rattle.model.specs.Answers.{Outcome, answers}
use Rattle.model.specs.Rows.{same_rows}
use Rattle.model.specs.Memory.{State}
use Rattle.model.specs.Starts.{fresh_of}
use Rattle.model.specs.Queries.{rows_at, table_of}
use Rattle.model.specs.Units.{inserted_up_to, deleted_up_to, sum_in, units_of, difference_of}
use Rattle.model.specs.Calls.{Call, run}
use Rattle.worked.proofs.Computing.{computing}
use Rattle.worked.proofs.WorkedLog.{worked}
use Rattle.worked.proofs.WorkedStore.{kept20}

abbrev units : ℕ → Outcome ℕ
units k = answers k

-- "50 for 01's log"; 9 is before the first request
by_hand : map (units_of worked) (0 ∷ 9 ∷ 10 ∷ 20 ∷ 30 ∷ 40 ∷ 45 ∷ 50 ∷ 60 ∷ [])
    ≡ units 0 ∷ units 0 ∷ units 50 ∷ units 62 ∷ units 56 ∷ units 44 ∷ units 44 ∷ units 49 ∷ units 50 ∷ []
unfolding computing
by_hand = refl

-- "0 for an empty one"
abbrev none : State
none = (fresh_of 2 2 3 (record { log = replicate 24 7; index = []; table = replicate 24 7; catalogue = []; areas = [] })).state

empty_log : (units_of none 0 ∷ units_of none 1 ∷ []) ≡ units 0 ∷ units 0 ∷ []
unfolding computing
empty_log = refl

empty_difference : difference_of none 0 0 ≡ answers (pos 0)
unfolding computing
empty_difference = refl

-- inserted less deleted: the update at 30 takes 50 away and adds 44, that at 60 takes 5 and adds 6
inserted_by_hand : (map (inserted_up_to worked) (20 ∷ 30 ∷ 45 ∷ 60 ∷ []) ∷ map (deleted_up_to worked) (20 ∷ 30 ∷ 45 ∷ 60 ∷ []) ∷ [])
    ≡ (62 ∷ 106 ∷ 106 ∷ 117 ∷ []) ∷ (0 ∷ 50 ∷ 62 ∷ 67 ∷ []) ∷ []
unfolding computing
inserted_by_hand = refl

-- the rows that the table calls show, in their outputs
shown_by_hand : (sum_in (table_of worked 10 (replicate 33 77)).output 1 ∷ sum_in (table_of worked 20 (replicate 33 77)).output 2 ∷ sum_in (table_of worked 60 (replicate 33 77)).output 2 ∷ [])
    ≡ 50 ∷ 62 ∷ 50 ∷ []
unfolding computing
shown_by_hand = refl

-- a count file changes no total
kept_the_same : map (units_of kept20) (10 ∷ 20 ∷ 45 ∷ 60 ∷ []) ≡ units 50 ∷ units 62 ∷ units 44 ∷ units 50 ∷ []
unfolding computing
kept_the_same = refl

-- ---- between two times

abbrev less : ℤ → Outcome ℤ
less k = answers k

-- "second less first, negative when stock fell"
differences : (difference_of worked 20 45 ∷ difference_of worked 45 20 ∷ difference_of worked 45 50 ∷ difference_of worked 0 60 ∷ difference_of worked 30 30 ∷ [])
    ≡ less (negsuc 17) ∷ less (pos 18) ∷ less (pos 5) ∷ less (pos 50) ∷ less (pos 0) ∷ []
unfolding computing
differences = refl

-- "zero when both totals agree": 7:50 at 10, and 7:44 and 9:6 at 60
agreeing : difference_of worked 10 60 ≡ less (pos 0)
unfolding computing
agreeing = refl

though_not_the_same : same_rows (rows_at worked 10) (rows_at worked 60) ≡ false
unfolding computing
though_not_the_same = refl

-- ---- large counts

-- d = 2, N = 2, R = 3: three rows of the largest count, each deleted again
abbrev emptied : State
emptied =
    run
    (fresh_of 2 2 3 (record { log = replicate 168 7; index = replicate 9 7; table = replicate 24 7; catalogue = []; areas = [] })).state
    (Call.insert 1 5 4294967295 ∷ Call.insert 2 6 4294967295 ∷ Call.insert 3 7 4294967295 ∷ Call.delete 4 5 ∷ Call.delete 5 6 ∷ Call.delete 6 7 ∷ [])

past-32-bits : map (units_of emptied) (1 ∷ 2 ∷ 3 ∷ 4 ∷ 5 ∷ 6 ∷ []) ≡ units 4294967295 ∷ units 8589934590 ∷ units 12884901885 ∷ units 8589934590 ∷ units 4294967295 ∷ units 0 ∷ []
unfolding computing
past-32-bits = refl

fell_past-32-bits : (difference_of emptied 3 6 ∷ difference_of emptied 6 3 ∷ []) ≡ less (negsuc 12884901884) ∷ less (pos 12884901885) ∷ []
unfolding computing
fell_past-32-bits = refl
