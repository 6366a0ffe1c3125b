-- Question 1 of the calls after fresh store and opening (01, "The questions, in order": "are d, N, R and n within their
-- limits, is the header the one for these numbers, are log, index and table long enough for them, live rows at most R and
-- files at most the capacity? 1"): each part answered no alone, beside the least that suffices. And two small stores
-- for the cases of the other questions. Assumes nothing.
use Prim.Native.Nat.{ℕ}
use mathlib.Core.Path.{◌≡◌, refl}
use mathlib.Core.List.{List, [], ◌∷◌, ◌++◌, map}
use mathlib.Core.Bool.{Bool, true, false}
use lib.ListN.{set, take, replicate}
use Rattle.codec.specs.Parts.{zeros}
use Rattle.model.specs.declared.Numbers.{Numbers}
use Rattle.model.specs.Settings.{records_in_range}
use Rattle.model.specs.Records.{Rec, insertion, records_bytes, header_bytes}
use Rattle.model.specs.Memory.{State, state, fits}
use Rattle.model.specs.Audit.{Audited}
use Rattle.worked.proofs.Computing.{computing}
use Rattle.worked.proofs.WorkedLog.{entry}

-- ---- two small stores, each of the least lengths, with `room` bytes and `spare` words behind log and index

abbrev pub numbers_of : (d N R n last live files : ℕ) → Numbers
numbers_of d N R n last live files =
    record { order = d; page = N; limit = R; records = n; last = last; live = live; files = files }

-- d = 2, N = 2, R = 1: time 10 insert 5 with 8. The table is full, and so is a catalogue of one file, that of time 10, marked 5
abbrev full_numbers : Numbers
full_numbers = numbers_of 2 2 1 1 10 1 1

abbrev full_records : List Rec
full_records = insertion 0 10 5 8 ∷ []

abbrev pub full_but : Numbers → (room spare : ℕ) → State
full_but s room spare =
    state s
    (record {
      log = header_bytes full_numbers ++ (records_bytes full_records ++ replicate room 7);
      index = 10 ∷ replicate spare 7;
      table = 5 ∷ 0 ∷ 0 ∷ 0 ∷ 8 ∷ 0 ∷ 0 ∷ 0 ∷ [];
      catalogue = entry 10 1 5 ∷ [];
      areas = 5 ∷ 0 ∷ 0 ∷ 0 ∷ 8 ∷ 0 ∷ 0 ∷ 0 ∷ [];
    })

abbrev pub full : (room spare : ℕ) → State
full room spare = full_but full_numbers room spare

-- the same with one live row more than R: question 1 is answered no
abbrev pub unsound : State
unsound = full_but (numbers_of 2 2 1 1 10 2 1) 0 0

-- d = 2, N = 2, R = 3: time 10 insert 5 with 8; 20 insert 6 with 9. Two records fill the one page; no file is held
abbrev pub pair : (room spare : ℕ) → State
pair room spare =
    state (numbers_of 2 2 3 2 20 2 0)
    (record {
      log = header_bytes (numbers_of 2 2 3 2 20 2 0) ++ (records_bytes (insertion 0 10 5 8 ∷ insertion 1 20 6 9 ∷ []) ++ replicate room 7);
      index = 10 ∷ replicate spare 7;
      table = 5 ∷ 0 ∷ 0 ∷ 0 ∷ 8 ∷ 0 ∷ 0 ∷ 0 ∷ 6 ∷ 0 ∷ 0 ∷ 0 ∷ 9 ∷ 0 ∷ 0 ∷ 0 ∷ zeros 8;
      catalogue = [];
      areas = [];
    })

full_audited : Audited (full 0 0)
unfolding computing
full_audited = refl

pair_audited : Audited (pair 0 0)
unfolding computing
pair_audited = refl

-- ---- the parts of question 1

-- index words, table bytes, entries and area bytes lent
record Lengths : Type 0 where
  index : ℕ
  table : ℕ
  entries : ℕ
  areas : ℕ

abbrev lengths : ℕ → ℕ → ℕ → ℕ → Lengths
lengths i t e a = record { index = i; table = t; entries = e; areas = a }

abbrev asked : Numbers → List ℕ → Lengths → Bool
asked s log k = fits s log k.index k.table k.entries k.areas

-- numbers with their own header before one record
abbrev own : Numbers → Lengths → Bool
own s k = asked s (header_bytes s ++ records_bytes full_records) k

-- the log of `full`, and the same with another byte at one place
abbrev full_log : List ℕ
full_log = (full 0 0).memory.log

abbrev marred : ℕ → Bool
marred i = asked full_numbers (set full_log i 77) (lengths 1 8 1 8)

-- both ends of each limit, with the least lengths that they need
limits : (own (numbers_of 2 2 1 1 10 1 1) (lengths 1 8 1 8) ∷ own (numbers_of 64 2 1 1 10 1 0) (lengths 63 8 0 0)
    ∷ own (numbers_of 2 64 1 1 10 1 0) (lengths 1 8 0 0) ∷ own (numbers_of 2 2 1024 1 10 1 0) (lengths 1 8192 0 0) ∷ []) ≡ replicate 4 true
unfolding computing
limits = refl

-- order, page size and row limit one past each end
past_limits : (own (numbers_of 1 2 1 1 10 1 0) (lengths 9 8 0 0) ∷ own (numbers_of 65 2 1 1 10 1 0) (lengths 64 8 0 0)
    ∷ own (numbers_of 2 1 1 1 10 1 0) (lengths 1 8 0 0) ∷ own (numbers_of 2 65 1 1 10 1 0) (lengths 1 8 0 0)
    ∷ own (numbers_of 2 2 0 1 10 0 0) (lengths 1 8 0 0) ∷ own (numbers_of 2 2 1025 1 10 1 0) (lengths 1 8200 0 0) ∷ []) ≡ replicate 6 false
unfolding computing
past_limits = refl

-- "At most 65,536 records"
records_limit : map records_in_range (65536 ∷ 65537 ∷ []) ≡ true ∷ false ∷ []
unfolding computing
records_limit = refl

-- a wrong byte in any of the header's fields: length, kind, d, N, R, n, last time, the highest byte of each too
marred-header : map marred (0 ∷ 1 ∷ 2 ∷ 3 ∷ 4 ∷ 5 ∷ 6 ∷ 7 ∷ 8 ∷ 11 ∷ 12 ∷ 15 ∷ 16 ∷ 23 ∷ []) ≡ replicate 14 false
unfolding computing
marred-header = refl

-- what it does not ask: a record's bytes
marred_record : map marred (24 ∷ 47 ∷ []) ≡ true ∷ true ∷ []
unfolding computing
marred_record = refl

-- one byte, word, byte less than suffices; a live row more than R; a file more than the capacity, by number, entries, areas
one_less : (asked full_numbers (take 47 full_log) (lengths 1 8 1 8) ∷ asked full_numbers full_log (lengths 0 8 1 8)
    ∷ asked full_numbers full_log (lengths 1 7 1 8) ∷ asked (numbers_of 2 2 1 1 10 2 1) full_log (lengths 1 8 1 8)
    ∷ asked (numbers_of 2 2 1 1 10 1 2) full_log (lengths 1 8 1 8) ∷ asked full_numbers full_log (lengths 1 8 0 8)
    ∷ asked full_numbers full_log (lengths 1 8 1 7) ∷ []) ≡ replicate 7 false
unfolding computing
one_less = refl

-- a log of 24 bytes, no index, catalogue or areas is enough where n = 0; a last time with n = 0 is no header's, though
-- the bytes say so ("0 if n = 0"); a log of 23 bytes holds no header
no_records : (asked (numbers_of 3 2 1 0 0 0 0) (header_bytes (numbers_of 3 2 1 0 0 0 0)) (lengths 0 8 0 0)
    ∷ asked (numbers_of 3 2 1 0 5 0 0) (header_bytes (numbers_of 3 2 1 0 5 0 0)) (lengths 0 8 0 0)
    ∷ asked (numbers_of 3 2 1 0 0 0 0) (take 23 (header_bytes (numbers_of 3 2 1 0 0 0 0))) (lengths 0 8 0 0)
    ∷ asked (numbers_of 3 2 1 0 0 0 0) [] (lengths 0 8 0 0) ∷ []) ≡ true ∷ false ∷ false ∷ false ∷ []
unfolding computing
no_records = refl
