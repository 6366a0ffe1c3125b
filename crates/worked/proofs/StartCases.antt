-- The questions of fresh store and opening in their order (01, "The questions, in order"), each two neighbours answered no
-- together, each one alone, and the least lengths that suffice; "all zero from a fresh store or an opening". The record number
-- at 17 is in FirstWrongCases, what 17 leaves in memory in MemoryCases. Assumes nothing.
use Prim.Native.Nat.{ℕ}
use mathlib.Core.Path.{◌≡◌, refl}
use mathlib.Core.List.{List, [], ◌∷◌, ◌++◌, map}
use mathlib.Core.Bool.{false}
use lib.ListN.{set, take, replicate}
use Rattle.model.specs.Answers.{answers, refuses}
use Rattle.model.specs.Settings.{settings_of}
use Rattle.model.specs.Records.{Rec, insertion, records_bytes, header_bytes}
use Rattle.model.specs.Memory.{Memory, state}
use Rattle.model.specs.Starts.{After, fresh_questions, fresh_of, open_questions, well_written, open_of}
use Rattle.worked.proofs.Computing.{computing}
use Rattle.worked.proofs.WorkedLog.{entry}
use Rattle.worked.proofs.QuestionOne.{numbers_of}
use Rattle.worked.proofs.QuestionCases.{noes}

-- memory of these lengths, each value foreign, and one entry with an area of 8 bytes
abbrev lent : List ℕ → (index table : ℕ) → Memory
lent log index table =
    record { log = log; index = replicate index 555; table = replicate table 5; catalogue = entry 1 2 9 ∷ []; areas = replicate 8 9 }

-- a start that was refused by question k alone: no number, and the memory as it was
abbrev not_begun : Memory → ℕ → After
not_begun m k = record { outcome = refuses k; state = state (numbers_of 0 0 0 0 0 0 0) m }

-- ---- fresh store

record Fresh : Type 0 where
  d : ℕ
  N : ℕ
  R : ℕ
  lends : Memory
  number : ℕ

abbrev fresh : ℕ → ℕ → ℕ → Memory → ℕ → Fresh
fresh d N R m k = record { d = d; N = N; R = R; lends = m; number = k }

-- 2 3, 3 4, 4 5; then one past each end of a limit, and a byte too few in log and table
fresh_cases : List Fresh
fresh_cases =
    fresh 1 1 1 (lent (replicate 24 5) 0 8) 2 ∷ fresh 2 65 0 (lent (replicate 24 5) 0 8) 3 ∷ fresh 2 2 1025 (lent (replicate 23 5) 0 8) 4
    ∷ fresh 1 2 1 (lent (replicate 24 5) 0 8) 2 ∷ fresh 65 2 1 (lent (replicate 24 5) 0 8) 2
    ∷ fresh 2 1 1 (lent (replicate 24 5) 0 8) 3 ∷ fresh 2 65 1 (lent (replicate 24 5) 0 8) 3
    ∷ fresh 2 2 0 (lent (replicate 24 5) 0 8) 4 ∷ fresh 2 2 1025 (lent (replicate 24 5) 0 8200) 4
    ∷ fresh 2 2 1 (lent (replicate 23 5) 0 8) 5 ∷ fresh 2 2 1 (lent (replicate 24 5) 0 7) 5 ∷ []

fresh_refused : map (λ (q : Fresh). fresh_of q.d q.N q.R q.lends) fresh_cases ≡ map (λ (q : Fresh). not_begun q.lends q.number) fresh_cases
unfolding computing fresh_cases
fresh_refused = refl

-- in the first three both neighbours are answered no
fresh-noes : map (λ (q : Fresh). noes (fresh_questions q.d q.N q.R q.lends)) (take 3 fresh_cases) ≡ (2 ∷ 3 ∷ []) ∷ (3 ∷ 4 ∷ []) ∷ (4 ∷ 5 ∷ []) ∷ []
unfolding computing noes fresh_cases
fresh-noes = refl

-- both ends of each limit are allowed
settings_allowed : (settings_of 2 2 1 ∷ settings_of 64 64 1024 ∷ [])
    ≡ answers (record { order = 2; page = 2; limit = 1 }) ∷ answers (record { order = 64; page = 64; limit = 1024 }) ∷ []
unfolding computing
settings_allowed = refl

-- 24 bytes and 8 × R are enough: no index, no entry, no area is asked for
fresh_enough : fresh_of 64 64 1 (record { log = replicate 24 5; index = []; table = replicate 8 5; catalogue = []; areas = [] })
    ≡ record {
      outcome = answers tt;
      state = state (numbers_of 64 64 1 0 0 0 0) (record { log = header_bytes (numbers_of 64 64 1 0 0 0 0); index = []; table = replicate 8 0; catalogue = []; areas = [] });
    }
unfolding computing
fresh_enough = refl

-- ---- opening

-- a log with the header for these numbers
abbrev pub log_with : (d N R n last : ℕ) → List Rec → List ℕ
log_with d N R n last rs = header_bytes (numbers_of d N R n last 0 0) ++ records_bytes rs

abbrev good : List Rec
good = insertion 0 10 5 8 ∷ []

record Opening : Type 0 where
  lends : Memory
  number : ℕ

abbrev opens : Memory → ℕ → Opening
opens m k = record { lends = m; number = k }

-- 1 2, 2 3, 3 4, 4 5, 5 17; then of 1: no byte, 23 bytes, a wrong length, a wrong kind
open_cases : List Opening
open_cases =
    opens (lent (set (log_with 1 2 1 1 10 good) 2 2) 1 8) 1 ∷ opens (lent (log_with 65 0 1 1 10 good) 1 8) 2 ∷ opens (lent (log_with 2 1 0 1 10 good) 1 8) 3
    ∷ opens (lent (log_with 2 2 1025 1 10 good) 1 8) 4 ∷ opens (lent (log_with 2 2 1 2 99 good) 1 8) 5
    ∷ opens (lent [] 1 8) 1 ∷ opens (lent (take 23 (log_with 2 2 1 0 0 [])) 1 8) 1 ∷ opens (lent (set (log_with 2 2 1 1 10 good) 0 25) 1 8) 1
    ∷ opens (lent (set (log_with 2 2 1 1 10 good) 3 1) 1 8) 1 ∷ []

open_refused : map (λ (q : Opening). open_of q.lends) open_cases ≡ map (λ (q : Opening). not_begun q.lends q.number) open_cases
unfolding computing open_cases
open_refused = refl

-- in the first four both neighbours are answered no; in the fifth 5 is, and its records are no legal log
open_noes : map (λ (q : Opening). noes (open_questions q.lends)) (take 5 open_cases) ≡ (1 ∷ 2 ∷ []) ∷ (2 ∷ 3 ∷ []) ∷ (3 ∷ 4 ∷ []) ∷ (4 ∷ 5 ∷ []) ∷ (5 ∷ []) ∷ []
unfolding computing noes open_cases
open_noes = refl

fifth_is_wrong : well_written (lent (log_with 2 2 1 2 99 good) 1 8) ≡ false
unfolding computing
fifth_is_wrong = refl

-- order, page size and row limit one past each end; then 5: too many records, a log, an index and a table one short
open_alone : List Opening
open_alone =
    opens (lent (log_with 1 2 1 1 10 good) 1 8) 2 ∷ opens (lent (log_with 65 2 1 1 10 good) 64 8) 2 ∷ opens (lent (log_with 2 1 1 1 10 good) 1 8) 3
    ∷ opens (lent (log_with 2 65 1 1 10 good) 1 8) 3 ∷ opens (lent (log_with 2 2 0 1 10 good) 1 8) 4 ∷ opens (lent (log_with 2 2 1025 1 10 good) 1 8200) 4
    ∷ opens (lent (log_with 2 2 1 65537 10 good) 1 8) 5
    ∷ opens (lent (take 47 (log_with 2 2 1 1 10 good)) 1 8) 5 ∷ opens (lent (log_with 2 2 1 1 10 good) 0 8) 5 ∷ opens (lent (log_with 2 2 1 1 10 good) 1 7) 5 ∷ []

open_refused_alone : map (λ (q : Opening). open_of q.lends) open_alone ≡ map (λ (q : Opening). not_begun q.lends q.number) open_alone
unfolding computing open_alone
open_refused_alone = refl

-- with the least lengths it is accepted, and holds no file
open_enough : open_of (lent (log_with 2 2 1 1 10 good) 1 8)
    ≡ record {
      outcome = answers tt;
      state =
          state (numbers_of 2 2 1 1 10 1 0)
          (record { log = log_with 2 2 1 1 10 good; index = 10 ∷ []; table = 5 ∷ 0 ∷ 0 ∷ 0 ∷ 8 ∷ 0 ∷ 0 ∷ 0 ∷ []; catalogue = entry 0 0 0 ∷ []; areas = replicate 8 9 });
    }
unfolding computing
open_enough = refl
