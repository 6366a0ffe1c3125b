-- A start clears no more entries than are lent: neither fresh store nor opening makes the catalogue longer. Assumes nothing.
use Prim.Native.Nat.{ℕ, zero, suc, ◌+◌, ◌-◌, ◌≤◌}
use mathlib.Core.Path.{◌≡◌, refl, ap, ◌∙◌}
use mathlib.Core.List.{List, []}
use mathlib.Core.Bool.{Bool, true, false, cond}
use native.Mathlib.Omega.{arith}
use lib.ListN.{length, replicate, length-append, length-drop, length-replicate}
use Rattle.codec.specs.Parts.{zeros, put}
use Rattle.model.specs.declared.Entry.{Entry}
use Rattle.model.specs.Answers.{answers, refuses_at, first_no, unless_no}
use Rattle.model.specs.Records.{header_limit}
use Rattle.model.specs.Legal.{first_wrong}
use Rattle.model.specs.Memory.{Memory, state, no_numbers, no_entry, capacity, emptied}
use Rattle.model.specs.Starts.{After, after, not_started, fresh_questions, fresh_numbers, fresh_memory, fresh_of, open_questions, written_log, well_written, opened_memory, opened_numbers, cleared_memory, open_of}
use Rattle.opening.specs.declared.Started.{Started}
use Rattle.opening.specs.Promise.{FreshPromise, OpenPromise}

-- the length of a catalogue with k entries cleared
cleared-length : (k : ℕ) (c : List Entry) → length (put c 0 (replicate k no_entry)) ≡ k + (length c - k)
cleared-length k c = simp (length-append, length-replicate, length-drop) (omega arith)

emptied-length : (R : ℕ) (m : Memory) → length (emptied R m) ≡ length m.catalogue
unfolding capacity
emptied-length R m = cleared-length (capacity R (length m.catalogue) (length m.areas)) m.catalogue ∙ omega arith

abbrev pub entries_after : After → ℕ
entries_after a = length a.state.memory.catalogue

pub fresh-length : (d N R : ℕ) (m : Memory) → entries_after (fresh_of d N R m) ≡ length m.catalogue
unfolding fresh_of fresh_memory
fresh-length d N R m = by-no (first_no (fresh_questions d N R m))
  where
    by-no : (k : ℕ) → entries_after (unless_no k (after (answers tt) (state (fresh_numbers d N R) (fresh_memory d N R m))) (not_started m)) ≡ length m.catalogue
    by-no zero = emptied-length R m
    by-no (suc k) = refl

pub open_length : (m : Memory) → entries_after (open_of m) ≡ length m.catalogue
unfolding open_of opened_memory cleared_memory
open_length m = by-no (first_no (open_questions m))
  where
    opened : After
    opened = after (answers tt) (state (opened_numbers m) (opened_memory m))

    wrong : After
    wrong = after (refuses_at 17 (first_wrong (header_limit m.log) (written_log m))) (state no_numbers (cleared_memory m))

    by_word : (b : Bool) → entries_after (cond b opened wrong) ≡ length m.catalogue
    by_word true = emptied-length (header_limit m.log) m
    by_word false = emptied-length (header_limit m.log) m

    by-no : (k : ℕ) → entries_after (unless_no k (cond (well_written m) opened wrong) (not_started m)) ≡ length m.catalogue
    by-no zero = by_word (well_written m)
    by-no (suc k) = refl

-- so many entries cleared make no catalogue longer
pub clears_few : (k n : ℕ) (c : List Entry) → length (put c 0 (replicate k no_entry)) ≡ length c → length c ≡ n → k ≤ n
clears_few k n c e l = omega (arith, e, l, cleared-length k c)

-- so a start's promise, made for every catalogue, says that it clears no more than are lent
pub fresh_few : {d N R entries area_bytes : ℕ} {log current log' current' : List ℕ} {r : Started} → FreshPromise d N R entries area_bytes log current r log' current'
    → r.clears ≤ entries
fresh_few {d} {N} {R} {entries} {area_bytes} {log} {current} {log'} {current'} {r} p =
    let none = replicate entries no_entry in
    let areas = zeros area_bytes in
    let n : length none ≡ entries = length-replicate entries no_entry in
    clears_few r.clears entries none (ap entries_after (p.fresh [] areas none n (length-replicate {A = ℕ} area_bytes 0)) ∙ fresh-length d N R _) n

pub open_few : {entries area_bytes : ℕ} {log index current index' current' : List ℕ} {r : Started} → OpenPromise entries area_bytes log index current r index' current'
    → r.clears ≤ entries
open_few {entries} {area_bytes} {log} {index} {current} {index'} {current'} {r} p =
    let none = replicate entries no_entry in
    let areas = zeros area_bytes in
    let n : length none ≡ entries = length-replicate entries no_entry in
    clears_few r.clears entries none (ap entries_after (p.opened areas none n (length-replicate {A = ℕ} area_bytes 0)) ∙ open_length _) n
