-- What the audit says yes and no to (01, "The questions, in order": "It says yes exactly for numbers and memory that some
-- accepted calls from a fresh or opened store leave, else no"): 01's log with a file, each of its parts wrong alone, and
-- the parts that may hold anything. Assumes nothing.
use Prim.Native.Nat.{ℕ}
use mathlib.Core.Path.{◌≡◌, refl}
use mathlib.Core.List.{List, [], ◌∷◌, ◌++◌, map}
use mathlib.Core.Bool.{Bool, true, false}
use lib.ListN.{set, take, replicate}
use Rattle.codec.specs.Parts.{zeros}
use Rattle.model.specs.declared.Numbers.{Numbers}
use Rattle.model.specs.declared.Entry.{Entry}
use Rattle.model.specs.Memory.{Memory, State, state}
use Rattle.model.specs.Starts.{fresh_of}
use Rattle.model.specs.Changes.{update_of}
use Rattle.model.specs.Queries.{position_of}
use Rattle.model.specs.Files.{keep_of}
use Rattle.model.specs.Audit.{audit_of}
use Rattle.worked.proofs.Computing.{computing}
use Rattle.worked.proofs.WorkedLog.{worked, entry, located}
use Rattle.worked.proofs.QuestionOne.{numbers_of, full}

-- 01's log with 20 kept: capacity 2, one file, the second area and the third entry foreign
abbrev kept20 : Memory
kept20 = (keep_of worked 20 5).state.memory

abbrev numbers20 : Numbers
numbers20 = numbers_of 3 2 4 8 60 2 1

abbrev with_log : List ℕ → Bool
with_log xs = audit_of (state numbers20 (record { log = xs; index = kept20.index; table = kept20.table; catalogue = kept20.catalogue; areas = kept20.areas }))

abbrev with_index : List ℕ → Bool
with_index xs = audit_of (state numbers20 (record { log = kept20.log; index = xs; table = kept20.table; catalogue = kept20.catalogue; areas = kept20.areas }))

abbrev with_table : List ℕ → Bool
with_table xs = audit_of (state numbers20 (record { log = kept20.log; index = kept20.index; table = xs; catalogue = kept20.catalogue; areas = kept20.areas }))

abbrev with_catalogue : List Entry → Bool
with_catalogue es = audit_of (state numbers20 (record { log = kept20.log; index = kept20.index; table = kept20.table; catalogue = es; areas = kept20.areas }))

abbrev with_areas : List ℕ → Bool
with_areas xs = audit_of (state numbers20 (record { log = kept20.log; index = kept20.index; table = kept20.table; catalogue = kept20.catalogue; areas = xs }))

abbrev with_numbers : Numbers → Bool
with_numbers s = audit_of (state s kept20)

as_it_is : with_numbers numbers20 ≡ true
unfolding computing
as_it_is = refl

-- may hold anything: log bytes past record n - 1, words past the last node, table bytes past 8 × R, entries past the
-- capacity, unused areas
anything : (with_log (set kept20.log 216 99) ∷ with_index (set kept20.index 6 99) ∷ with_table (set kept20.table 32 99)
    ∷ with_catalogue (entry 20 2 5 ∷ entry 0 0 0 ∷ entry 7 7 7 ∷ []) ∷ with_areas (set kept20.areas 32 99) ∷ with_areas (set kept20.areas 68 99) ∷ [])
    ≡ replicate 6 true
unfolding computing
anything = refl

-- and may be as short as n and R allow
least : (with_log (take 216 kept20.log) ∷ with_index (take 6 kept20.index) ∷ with_table (take 32 kept20.table)
    ∷ with_catalogue (entry 20 2 5 ∷ []) ∷ with_areas (take 32 kept20.areas) ∷ []) ≡ replicate 5 true
unfolding computing
least = refl

-- a wrong header byte, record byte (kind, id, time, article, count), key, separator, unused word, row, table byte after
-- the rows
wrong_bytes : (with_log (set kept20.log 16 61) ∷ with_log (set kept20.log 26 3) ∷ with_log (set kept20.log 28 9) ∷ with_log (set kept20.log 32 21)
    ∷ with_log (set kept20.log 88 5) ∷ with_log (set kept20.log 92 5) ∷ with_index (set kept20.index 1 31) ∷ with_index (set kept20.index 2 40)
    ∷ with_index (set kept20.index 3 1) ∷ with_table (set kept20.table 4 45) ∷ with_table (set kept20.table 31 1) ∷ []) ≡ replicate 11 false
unfolding computing
wrong_bytes = refl

-- a file of time 0, after the last time, with a wrong row count, twice, out of order; a stale entry; a wrong row in an
-- area, a stale byte after its rows
wrong_files : (with_catalogue (entry 0 2 5 ∷ entry 0 0 0 ∷ []) ∷ with_catalogue (entry 61 2 5 ∷ entry 0 0 0 ∷ [])
    ∷ with_catalogue (entry 20 3 5 ∷ entry 0 0 0 ∷ []) ∷ with_catalogue (entry 20 2 5 ∷ entry 0 1 0 ∷ []) ∷ with_catalogue (entry 20 2 5 ∷ entry 30 0 0 ∷ [])
    ∷ with_areas (set kept20.areas 4 13) ∷ with_areas (set kept20.areas 31 1) ∷ [])
    ≡ replicate 7 false
unfolding computing
wrong_files = refl

-- "0 permanent, 5 goes on Friday, 7 goes on Sunday" (02, wish 3)
marked_well : map (λ (k : ℕ). with_catalogue (entry 20 2 k ∷ entry 0 0 0 ∷ [])) (0 ∷ 5 ∷ 7 ∷ []) ≡ replicate 3 true
unfolding computing
marked_well = refl

-- an entry past the capacity may have any mark
past_the_capacity : map (λ (k : ℕ). with_catalogue (entry 20 2 5 ∷ entry 0 0 0 ∷ entry 99 98 k ∷ [])) (0 ∷ 5 ∷ 6 ∷ 4294967295 ∷ []) ≡ replicate 4 true
unfolding computing
past_the_capacity = refl

-- a file with another mark; a mark, whichever it is, in an entry behind the files
wrong_marks_lem : (map (λ (k : ℕ). with_catalogue (entry 20 2 k ∷ entry 0 0 0 ∷ [])) (1 ∷ 4 ∷ 6 ∷ 8 ∷ 9 ∷ 4294967295 ∷ [])
    ++ map (λ (k : ℕ). with_catalogue (entry 20 2 5 ∷ entry 0 0 k ∷ [])) (5 ∷ 7 ∷ 9 ∷ [])) ≡ replicate 9 false
unfolding computing
wrong_marks_lem = refl

-- two files of one time, and out of order, each with its own table
twice : map audit_of
    (state (numbers_of 3 2 4 8 60 2 2) (record { log = kept20.log; index = kept20.index; table = kept20.table; catalogue = entry 20 2 5 ∷ entry 20 2 5 ∷ []; areas = take 32 kept20.areas ++ take 32 kept20.areas })
    ∷ state (numbers_of 3 2 4 8 60 2 2) (record { log = kept20.log; index = kept20.index; table = kept20.table; catalogue = entry 20 2 5 ∷ entry 5 0 7 ∷ []; areas = take 32 kept20.areas ++ zeros 32 })
    ∷ state (numbers_of 3 2 4 8 60 2 2) (record { log = kept20.log; index = kept20.index; table = kept20.table; catalogue = entry 5 0 7 ∷ entry 20 2 5 ∷ []; areas = zeros 32 ++ take 32 kept20.areas }) ∷ [])
    ≡ false ∷ false ∷ true ∷ []
unfolding computing
twice = refl

-- another order, page size, row limit, record count, last time, number of live rows, number of files
wrong_numbers : map with_numbers
    (numbers_of 4 2 4 8 60 2 1 ∷ numbers_of 3 3 4 8 60 2 1 ∷ numbers_of 3 2 3 8 60 2 1 ∷ numbers_of 3 2 4 7 60 2 1 ∷ numbers_of 3 2 4 8 61 2 1 ∷ numbers_of 3 2 4 8 60 1 1
    ∷ numbers_of 3 2 4 8 60 3 1 ∷ numbers_of 3 2 4 8 60 2 0 ∷ numbers_of 3 2 4 8 60 2 2 ∷ []) ≡ replicate 9 false
unfolding computing
wrong_numbers = refl

-- an empty store of the least settings, with one file and with none to hold; what no start leaves: all numbers zero
empty_stores : (audit_of (fresh_of 2 2 1 (full 0 0).memory).state
    ∷ audit_of (fresh_of 2 2 1 (record { log = replicate 24 7; index = []; table = replicate 8 7; catalogue = []; areas = [] })).state
    ∷ audit_of (state (numbers_of 0 0 0 0 0 0 0) kept20) ∷ []) ≡ true ∷ true ∷ false ∷ []
unfolding computing
empty_stores = refl

-- an update split over two pages, d = 2: three records at N = 2, keys 10 and 11, its time on the later page; the state that
-- it leaves is audited
abbrev split : State
split = (update_of (full 48 3) 11 5 8).state

split_index : split.memory.index ≡ 10 ∷ 10 ∷ 11 ∷ 7 ∷ []
unfolding computing
split_index = refl

split_positions : map (position_of split) (10 ∷ 11 ∷ []) ≡ located 0 1 ∷ located 1 3 ∷ []
unfolding computing
split_positions = refl

split_audited : audit_of split ≡ true
unfolding computing
split_audited = refl
