-- Friday and Sunday marks (02, wish 3) on 01's log: five files, the two of Friday neighbours, in memory with one area free and
-- something behind it. What each deletion leaves, byte for byte, and that no table differs for it. Assumes nothing.
use Prim.Native.Nat.{ℕ}
use mathlib.Core.Path.{◌≡◌, refl}
use mathlib.Core.List.{List, [], ◌∷◌, ◌++◌, map}
use mathlib.Core.Bool.{true}
use lib.ListN.{replicate, take}
use Rattle.codec.specs.Parts.{zeros}
use Rattle.model.specs.declared.Entry.{Entry}
use Rattle.model.specs.declared.Side.TheVariants.{Earlier, Later}
use Rattle.model.specs.declared.Place.TheVariants.{Empty, Area}
use Rattle.model.specs.Answers.{answers, refuses}
use Rattle.model.specs.Memory.{State}
use Rattle.model.specs.Starts.{after}
use Rattle.model.specs.Queries.{position_of, table_of, view_of, net_of}
use Rattle.model.specs.Files.{drop_of, drop_marked_of}
use Rattle.model.specs.Audit.{audit_of}
use Rattle.model.specs.Units.{units_of}
use Rattle.model.specs.Calls.{keep, drop, drop_marked, run}
use Rattle.worked.proofs.Computing.{computing}
use Rattle.worked.proofs.WorkedLog.{entry, located, table20, table30, table45, change20to45, told, changes, seen}
use Rattle.worked.proofs.MemoryCases.{wide_with}
use Rattle.worked.proofs.LateCases.{table60}

-- ---- the stores

-- so many files, these entries and areas; behind them, foreign, an entry past the capacity of six, an area and five bytes
abbrev pub with : ℕ → List Entry → List ℕ → State
with files entries areas = wide_with files (entries ++ (entry 99 98 9 ∷ [])) (areas ++ replicate 37 9)

abbrev pub blank : State
blank = with 0 (replicate 6 (entry 0 0 0)) (replicate 160 9)

-- kept in no order of times
abbrev pub filed : State
filed = run blank (keep 40 7 ∷ keep 20 5 ∷ keep 60 0 ∷ keep 10 7 ∷ keep 30 5 ∷ [])

abbrev table10 : List ℕ
table10 = 7 ∷ 0 ∷ 0 ∷ 0 ∷ 50 ∷ 0 ∷ 0 ∷ 0 ∷ zeros 24

-- "Each entry gains a mark", "Keep takes the mark": each file has its own, wherever it is shifted
filed_is : filed
    ≡ with 5 (entry 10 1 7 ∷ entry 20 2 5 ∷ entry 30 2 5 ∷ entry 40 1 7 ∷ entry 60 2 0 ∷ entry 0 0 0 ∷ [])
    (table10 ++ (table20 ++ (table30 ++ (table45 ++ table60))))
unfolding computing
filed_is = refl

abbrev friday : State
friday = with 3 (entry 10 1 7 ∷ entry 40 1 7 ∷ entry 60 2 0 ∷ replicate 3 (entry 0 0 0)) (table10 ++ (table45 ++ (table60 ++ zeros 64)))

abbrev sunday : State
sunday = with 1 (entry 60 2 0 ∷ replicate 5 (entry 0 0 0)) (table60 ++ zeros 128)

-- ---- what a deletion leaves

-- "deletes every file with a given mark, closing up the rest in order with zeros in the entries and areas set free, and answers
-- how many went": the neighbours 20 and 30
goes-on-friday : drop_marked_of filed 5 ≡ after (answers 2) friday
unfolding computing
goes-on-friday = refl

-- "7 goes on Sunday", 10 and 40, and "0 permanent" stays
goes-on-sunday : drop_marked_of friday 7 ≡ after (answers 2) sunday
unfolding computing
goes-on-sunday = refl

-- Sunday's takes no 5 along
sunday_first : drop_marked_of filed 7
    ≡ after (answers 2)
    (with 3 (entry 20 2 5 ∷ entry 30 2 5 ∷ entry 60 2 0 ∷ replicate 3 (entry 0 0 0)) (table20 ++ (table30 ++ (table60 ++ zeros 64))))
unfolding computing
sunday_first = refl

-- "none is a fine answer", and nothing changes
none-goes : (drop_marked_of friday 5 ∷ drop_marked_of sunday 5 ∷ drop_marked_of sunday 7 ∷ [])
    ≡ after (answers 0) friday ∷ after (answers 0) sunday ∷ after (answers 0) sunday ∷ []
unfolding computing
none-goes = refl

-- dropped one by one, in either order, 20 and 30 leave the same store
one_by_one : (run filed (drop 20 ∷ drop 30 ∷ []) ∷ run filed (drop 30 ∷ drop 20 ∷ []) ∷ run filed (drop_marked 5 ∷ []) ∷ []) ≡ replicate 3 friday
unfolding computing
one_by_one = refl

-- "Dropping by time still works on any mark"
any_mark : (drop_of friday 10 ∷ drop_of friday 60 ∷ drop_of (run filed (drop 10 ∷ drop 40 ∷ drop 60 ∷ [])) 20 ∷ [])
    ≡ after (answers tt) (with 2 (entry 40 1 7 ∷ entry 60 2 0 ∷ replicate 4 (entry 0 0 0)) (table45 ++ (table60 ++ zeros 96)))
    ∷ after (answers tt) (with 2 (entry 10 1 7 ∷ entry 40 1 7 ∷ replicate 4 (entry 0 0 0)) (table10 ++ (table45 ++ zeros 96)))
    ∷ after (answers tt) (with 1 (entry 30 2 5 ∷ replicate 5 (entry 0 0 0)) (table30 ++ zeros 128)) ∷ []
unfolding computing
any_mark = refl

-- 18 "when it isn't 5 or 7", though a file has mark 0; "lent memory is unchanged" (01). Of keep: QuestionCases
refused : map (drop_marked_of friday) (0 ∷ 6 ∷ 12 ∷ []) ≡ replicate 3 (after (refuses 18) friday)
unfolding computing
refused = refl

abbrev stores : List State
stores = filed ∷ friday ∷ sunday ∷ []

-- "It says yes exactly for numbers and memory that some accepted calls … leave" (01)
audited : map audit_of stores ≡ replicate 3 true
unfolding computing
audited = refl

-- ---- "No table may differ because a marked file has gone"

-- the same positions, of a time before the first request and one after the last too
same_positions : map (λ (st : State). map (position_of st) (5 ∷ 25 ∷ 30 ∷ 45 ∷ 61 ∷ [])) stores
    ≡ replicate 3 (located 0 0 ∷ located 0 2 ∷ located 1 4 ∷ located 2 5 ∷ located 3 8 ∷ [])
unfolding computing
same_positions = refl

-- the same units
same_units : map (λ (st : State). map (units_of st) (5 ∷ 25 ∷ 30 ∷ 45 ∷ 61 ∷ [])) stores
    ≡ replicate 3 (map (λ (k : ℕ). answers k) (0 ∷ 62 ∷ 56 ∷ 44 ∷ 50 ∷ []))
unfolding computing
same_units = refl

-- the same net change
same_net : map (λ (st : State). net_of st 20 45 (replicate 97 77) (replicate 65 77)) stores ≡ replicate 3 (changes 3 change20to45 (table20 ++ table45))
unfolding computing
same_net = refl

-- the same rows and bytes; "side and distance may differ" (01): 30 starts from its own file, from 40's, after Sunday from time 0
same_tables : map (λ (st : State). map (λ (t : ℕ). table_of st t (replicate 33 77)) (20 ∷ 30 ∷ 45 ∷ [])) stores
    ≡ (told 2 Earlier 0 table20 ∷ told 2 Earlier 0 table30 ∷ told 1 Earlier 0 table45 ∷ [])
    ∷ (told 2 Earlier 1 table20 ∷ told 2 Later 1 table30 ∷ told 1 Earlier 0 table45 ∷ [])
    ∷ (told 2 Earlier 2 table20 ∷ told 2 Earlier 4 table30 ∷ told 1 Later 3 table45 ∷ []) ∷ []
unfolding computing
same_tables = refl

-- ---- marks and the outset

-- Friday's three files with other marks
abbrev marked : (of10 of40 of60 : ℕ) → State
marked i j k = run blank (keep 10 i ∷ keep 40 j ∷ keep 60 k ∷ [])

-- "of 01's two, the one with fewest requests between" (wish 6), whatever the marks, 7 7 0, are exchanged for
same_outsets : map (λ (st : State). map (view_of st) (5 ∷ 20 ∷ 30 ∷ 40 ∷ 61 ∷ [])) (friday ∷ marked 0 0 7 ∷ marked 5 0 7 ∷ marked 0 7 5 ∷ [])
    ≡ replicate 4
    (seen Empty 0 Earlier 0 [] ∷ seen (Area 0) 1 Earlier 1 (take 8 table10) ∷ seen (Area 1) 1 Later 1 (take 8 table45)
    ∷ seen (Area 1) 1 Earlier 0 (take 8 table45) ∷ seen (Area 2) 2 Earlier 0 (take 16 table60) ∷ [])
unfolding computing
same_outsets = refl
