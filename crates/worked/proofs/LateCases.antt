-- Times after the last request (02, wish 2), on 01's log, whose last is 60: 01's "Time 61 gives 12" becomes an answer "with the table
-- of 60", and 12 is a keep's. Before the wish it was 12 throughout. Assumes nothing.
use Prim.Native.Nat.{ℕ}
use mathlib.Core.Path.{◌≡◌, refl}
use mathlib.Core.List.{List, [], ◌∷◌, ◌++◌, map}
use mathlib.Core.Bool.{true, false}
use lib.ListN.{replicate, take}
use lib.IntN.{pos, negsuc}
use Rattle.codec.specs.Parts.{zeros}
use Rattle.model.specs.declared.Side.TheVariants.{Earlier, Later}
use Rattle.model.specs.declared.Place.TheVariants.{Empty, Area, Current}
use Rattle.model.specs.Answers.{answers, refuses}
use Rattle.model.specs.Memory.{State}
use Rattle.model.specs.Starts.{after, fresh_of}
use Rattle.model.specs.Queries.{answered_time, position_of, no_table, table_of, no_view, view_of, no_net, net_of}
use Rattle.model.specs.Files.{keep_of}
use Rattle.model.specs.Units.{units_of, difference_of}
use Rattle.model.specs.LateTimes.{position_before, table_before, view_before, net_before, units_before, difference_before, said_refused_by}
use Rattle.model.specs.Calls.{Call, answer_of, run}
use Rattle.worked.proofs.Computing.{computing}
use Rattle.worked.proofs.WorkedLog.{worked, located, table20, told, changes, seen}
use Rattle.worked.proofs.WorkedStore.{kept20}
use Rattle.worked.proofs.CallCases.{roomy}

-- the first time after the last, one far past it, and 2 ^ 64 - 1
abbrev late : List ℕ
late = 61 ∷ 100000000000 ∷ 18446744073709551615 ∷ []

time_answered : (answered_time 60 0 ∷ answered_time 60 59 ∷ answered_time 60 60 ∷ map (answered_time 60) late) ≡ 0 ∷ 59 ∷ 60 ∷ 60 ∷ 60 ∷ 60 ∷ []
unfolding computing
time_answered = refl

abbrev pub table60 : List ℕ
table60 = 7 ∷ 0 ∷ 0 ∷ 0 ∷ 44 ∷ 0 ∷ 0 ∷ 0 ∷ 9 ∷ 0 ∷ 0 ∷ 0 ∷ 6 ∷ 0 ∷ 0 ∷ 0 ∷ zeros 16

-- ---- each query

positions : map (position_of worked) late ≡ replicate 3 (located 3 8)
unfolding computing
positions = refl

-- "01's case of time 61 becomes an answer, with the table of 60"
tables : map (λ (t : ℕ). table_of worked t (replicate 33 77)) late ≡ replicate 3 (told 2 Later 0 table60)
unfolding computing
tables = refl

views : map (view_of worked) late ≡ replicate 3 (seen Current 2 Later 0 (take 16 table60))
unfolding computing
views = refl

units : map (units_of worked) late ≡ replicate 3 (answers 50)
unfolding computing
units = refl

-- 62 units at 20 and 50 at 60: the second time late, the first, both
differences : (difference_of worked 20 61 ∷ difference_of worked 61 20 ∷ difference_of worked 61 18446744073709551615 ∷ [])
    ≡ answers (negsuc 11) ∷ answers (pos 12) ∷ answers (pos 0) ∷ []
unfolding computing
differences = refl

-- delete 3:12, delete 7:50, insert 7:44, insert 9:6
abbrev change20to60 : List ℕ
change20to60 =
    12 ∷ 0 ∷ 3 ∷ 0 ∷ 3 ∷ 0 ∷ 0 ∷ 0 ∷ 12 ∷ 0 ∷ 0 ∷ 0
    ∷ 12 ∷ 0 ∷ 3 ∷ 0 ∷ 7 ∷ 0 ∷ 0 ∷ 0 ∷ 50 ∷ 0 ∷ 0 ∷ 0
    ∷ 12 ∷ 0 ∷ 2 ∷ 0 ∷ 7 ∷ 0 ∷ 0 ∷ 0 ∷ 44 ∷ 0 ∷ 0 ∷ 0
    ∷ 12 ∷ 0 ∷ 2 ∷ 0 ∷ 9 ∷ 0 ∷ 0 ∷ 0 ∷ 6 ∷ 0 ∷ 0 ∷ 0 ∷ zeros 48

-- insert 3:12, delete 7:44, insert 7:50, delete 9:6
abbrev change60to20 : List ℕ
change60to20 =
    12 ∷ 0 ∷ 2 ∷ 0 ∷ 3 ∷ 0 ∷ 0 ∷ 0 ∷ 12 ∷ 0 ∷ 0 ∷ 0
    ∷ 12 ∷ 0 ∷ 3 ∷ 0 ∷ 7 ∷ 0 ∷ 0 ∷ 0 ∷ 44 ∷ 0 ∷ 0 ∷ 0
    ∷ 12 ∷ 0 ∷ 2 ∷ 0 ∷ 7 ∷ 0 ∷ 0 ∷ 0 ∷ 50 ∷ 0 ∷ 0 ∷ 0
    ∷ 12 ∷ 0 ∷ 3 ∷ 0 ∷ 9 ∷ 0 ∷ 0 ∷ 0 ∷ 6 ∷ 0 ∷ 0 ∷ 0 ∷ zeros 48

-- the second time late, the first, both
net_changes : (net_of worked 20 61 (replicate 97 77) (replicate 65 77) ∷ net_of worked 61 20 (replicate 97 77) (replicate 65 77)
    ∷ net_of worked 61 18446744073709551615 (replicate 97 77) (replicate 65 77) ∷ [])
    ≡ changes 4 change20to60 (table20 ++ table60) ∷ changes 4 change60to20 (table60 ++ table20) ∷ changes 0 (zeros 96) (table60 ++ table60) ∷ []
unfolding computing
net_changes = refl

-- ---- with count files: one of the last time goes first, another does not

views_kept : (view_of (run worked (Call.keep 60 7 ∷ [])) 61 ∷ view_of (run worked (Call.keep 20 5 ∷ Call.keep 60 0 ∷ [])) 61 ∷ view_of kept20 61 ∷ [])
    ≡ seen (Area 0) 2 Earlier 0 (take 16 table60) ∷ seen (Area 1) 2 Earlier 0 (take 16 table60) ∷ seen Current 2 Later 0 (take 16 table60) ∷ []
unfolding computing
views_kept = refl

table_kept : table_of (run worked (Call.keep 60 7 ∷ [])) 61 (replicate 33 77) ≡ told 2 Earlier 0 table60
unfolding computing
table_kept = refl

-- ---- with no record every time is answered as time 0

abbrev none : State
none = (fresh_of 2 2 1 (record { log = replicate 24 7; index = []; table = replicate 8 7; catalogue = []; areas = [] })).state

abbrev any : List ℕ
any = 0 ∷ 1 ∷ 18446744073709551615 ∷ []

none_positions : map (position_of none) any ≡ replicate 3 (located 0 0)
unfolding computing
none_positions = refl

none_tables : map (λ (t : ℕ). table_of none t (replicate 9 77)) any ≡ replicate 3 (told 0 Earlier 0 (zeros 8))
unfolding computing
none_tables = refl

none_views : map (view_of none) any ≡ replicate 3 (seen Empty 0 Earlier 0 [])
unfolding computing
none_views = refl

none-units : map (units_of none) any ≡ replicate 3 (answers 0)
unfolding computing
none-units = refl

none_between : (difference_of none 0 1 ∷ difference_of none 1 0 ∷ []) ≡ replicate 2 (answers (pos 0))
unfolding computing
none_between = refl

none_net : net_of none 1 18446744073709551615 (replicate 25 77) (replicate 17 77) ≡ changes 0 (zeros 24) (zeros 16)
unfolding computing
none_net = refl

-- ---- what it was before

before : (position_before worked 60 ∷ position_before worked 61 ∷ []) ≡ located 3 8 ∷ refuses 12 ∷ []
unfolding computing
before = refl

table_before_lem : (table_before worked 60 (replicate 33 77) ∷ table_before worked 61 (replicate 33 77) ∷ table_before worked 61 [] ∷ table_before worked 60 [] ∷ [])
    ≡ told 2 Later 0 table60 ∷ no_table (replicate 33 77) 12 ∷ no_table [] 12 ∷ no_table [] 13 ∷ []
unfolding computing
table_before_lem = refl

view_before_lem : (view_before worked 60 ∷ view_before worked 61 ∷ []) ≡ seen Current 2 Later 0 (take 16 table60) ∷ no_view worked 12 ∷ []
unfolding computing
view_before_lem = refl

net_before_lem : (net_before worked 20 60 (replicate 97 77) (replicate 65 77) ∷ net_before worked 61 20 (replicate 97 77) [] ∷ net_before worked 20 61 [] [] ∷ net_before worked 20 60 [] [] ∷ [])
    ≡ changes 4 change20to60 (table20 ++ table60) ∷ no_net (replicate 97 77) [] 12 ∷ no_net [] [] 12 ∷ no_net [] [] 13 ∷ []
unfolding computing
net_before_lem = refl

units-before : (units_before worked 60 ∷ units_before worked 61 ∷ []) ≡ answers 50 ∷ refuses 12 ∷ []
unfolding computing
units-before = refl

difference-before : (difference_before worked 20 60 ∷ difference_before worked 61 20 ∷ difference_before worked 20 61 ∷ []) ≡ answers (negsuc 11) ∷ refuses 12 ∷ refuses 12 ∷ []
unfolding computing
difference-before = refl

-- ---- 12 is a keep's

-- a short output or workspace is refused by 13 whatever the time
short : table_of worked 61 (replicate 31 3) ≡ no_table (replicate 31 3) 13
unfolding computing
short = refl

short_net : (net_of worked 61 20 (replicate 95 3) (replicate 64 4) ∷ net_of worked 20 61 (replicate 96 3) (replicate 63 4) ∷ [])
    ≡ no_net (replicate 95 3) (replicate 64 4) 13 ∷ no_net (replicate 96 3) (replicate 63 4) 13 ∷ []
unfolding computing
short_net = refl

keeps : map (λ (t : ℕ). keep_of worked t 5) late ≡ replicate 3 (after (refuses 12) worked)
unfolding computing
keeps = refl

-- which calls for time 61 are refused by 12
met : map (λ (c : Call). said_refused_by 12 (answer_of roomy c)) (Call.position 61 ∷ Call.table 61 (replicate 32 3) ∷ Call.table 61 [] ∷ Call.view 61
    ∷ Call.net_change 61 61 [] [] ∷ Call.units 61 ∷ Call.difference 61 61 ∷ Call.insert 61 3 5 ∷ Call.delete 61 7 ∷ Call.update 61 9 8 ∷ Call.drop 61
    ∷ Call.drop_marked 5 ∷ Call.drop_marked 12 ∷ Call.keep 60 7 ∷ Call.keep 61 7 ∷ Call.audit ∷ [])
    ≡ replicate 14 false ++ (true ∷ false ∷ [])
unfolding computing
met = refl

-- nothing is remembered: once 3:5 is inserted at 61, that time has a table of its own, and can be kept
abbrev after61 : State
after61 = run roomy (Call.insert 61 3 5 ∷ [])

anew : (table_of after61 61 (replicate 33 77) ∷ table_of after61 60 (replicate 33 77) ∷ [])
    ≡ told 3 Later 0 (3 ∷ 0 ∷ 0 ∷ 0 ∷ 5 ∷ 0 ∷ 0 ∷ 0 ∷ take 24 table60) ∷ told 2 Later 1 table60 ∷ []
unfolding computing
anew = refl

kept_then : ((keep_of after61 61 7).outcome ∷ (keep_of after61 62 7).outcome ∷ []) ≡ answers tt ∷ refuses 12 ∷ []
unfolding computing
kept_then = refl
