-- 01's log by hand, reached three ways: its bytes are those of "Log bytes", the audit passes it, an opening and six
-- requests over foreign memory leave it whole, and with 20 kept, and with that file gone by its mark, accepted calls leave
-- it ("It says yes exactly for numbers and memory that some accepted calls from a fresh or opened store leave").
-- Assumes nothing.
use Prim.Native.Nat.{ℕ, ◌+◌, ◌-◌, ◌*◌, ◌^◌}
use mathlib.Core.Path.{◌≡◌, refl}
use mathlib.Core.List.{List, [], ◌∷◌, ◌++◌}
use lib.ListN.{replicate}
use lib.Dec.{lit<}
use Rattle.codec.specs.Parts.{zeros}
use Rattle.worked.proofs.Computing.{computing}
use Rattle.model.specs.Answers.{answers}
use Rattle.model.specs.Records.{insertion, record_bytes, records_bytes, records, header_bytes}
use Rattle.model.specs.Memory.{Memory, State, state}
use Rattle.model.specs.Starts.{after, open_of}
use Rattle.model.specs.Files.{keep_of, drop_marked_of}
use Rattle.model.specs.Audit.{Audited}
use Rattle.model.specs.Calls.{fresh, opening, Call, begun, insert, delete, update, run, Reachable, started, inserted, deleted, updated, kept, marked_dropped}
use Rattle.worked.proofs.Lendables.{all_below, lendable}
use Rattle.worked.proofs.WorkedLog.{worked_records, worked_numbers, worked_memory, worked, entry}

-- ---- the bytes

-- "length 24 (2 bytes), kind 1 (2), order d (2), records per page N (2), row limit R (4), record count n (4), time of
-- the last request (8)"
header-bytes : header_bytes worked_numbers ≡ 24 ∷ 0 ∷ 1 ∷ 0 ∷ 3 ∷ 0 ∷ 2 ∷ 0 ∷ 4 ∷ 0 ∷ 0 ∷ 0 ∷ 8 ∷ 0 ∷ 0 ∷ 0 ∷ 60 ∷ zeros 7
unfolding computing
header-bytes = refl

-- "length 24 (2), kind (2; 2 insertion, 3 deletion), id (4), time (8), article (4), count (4)", lowest byte first
record_bytes_lem : record_bytes (insertion 5 (3 + 256 * 4) 513 (2 ^ 32 - 1)) ≡
    24 ∷ 0 ∷ 2 ∷ 0 ∷ 5 ∷ 0 ∷ 0 ∷ 0 ∷ 3 ∷ 4 ∷ 0 ∷ 0 ∷ 0 ∷ 0 ∷ 0 ∷ 0 ∷ 1 ∷ 2 ∷ 0 ∷ 0 ∷ 255 ∷ 255 ∷ 255 ∷ 255 ∷ []
unfolding computing
record_bytes_lem = refl

-- the records read back from the log are those written
records_back : records (records_bytes worked_records) 8 ≡ worked_records
unfolding computing
records_back = refl

-- ---- the audit

audited : Audited worked
unfolding computing
audited = refl

-- ---- an opening over foreign memory

-- the log of `worked`; index, table and catalogue hold other values, and the same foreign ones behind
abbrev foreign : List ℕ → Memory
foreign log =
    record {
      log = log;
      index = replicate 6 555 ++ (777 ∷ 888 ∷ []);
      table = replicate 32 5 ++ (211 ∷ 212 ∷ []);
      catalogue = entry 1 2 9 ∷ entry 3 4 8 ∷ entry 99 98 9 ∷ [];
      areas = replicate 69 9;
    }

opened_is : open_of (foreign worked_memory.log) ≡ after (answers tt) worked
unfolding computing
opened_is = refl

-- ---- a fresh store and the six requests

abbrev blank : Memory
blank = foreign (replicate 216 5 ++ (201 ∷ 202 ∷ 203 ∷ []))

abbrev requests : List Call
requests = insert 10 7 50 ∷ insert 20 3 12 ∷ update 30 7 44 ∷ delete 40 3 ∷ insert 50 9 5 ∷ update 60 9 6 ∷ []

built_is : run (begun (fresh 3 2 4 blank)).state requests ≡ worked
unfolding computing
built_is = refl

-- each of them is accepted
worked_reachable : Reachable worked
unfolding computing all_below
worked_reachable =
    let lent = lendable blank (record { log = tt; index = tt; table = tt; times = tt; rows = tt; marks = tt; areas = tt }) in
    let r0 = started (fresh 3 2 4 blank) (lit< tt, (lit< tt, (lit< tt, lent))) refl in
    let r1 = inserted 10 7 50 r0 (lit< tt, (lit< tt, lit< tt)) refl in
    let r2 = inserted 20 3 12 r1 (lit< tt, (lit< tt, lit< tt)) refl in
    let r3 = updated 30 7 44 r2 (lit< tt, (lit< tt, lit< tt)) refl in
    let r4 = deleted 40 3 r3 (lit< tt, lit< tt) refl in
    let r5 = inserted 50 9 5 r4 (lit< tt, (lit< tt, lit< tt)) refl in
    updated 60 9 6 r5 (lit< tt, (lit< tt, lit< tt)) refl

-- ---- with 20 kept, marked 5

-- entry 0 and area 0 hold the table of 20, entry 1 is zero, and the rest is as it was
abbrev pub kept20 : State
kept20 =
    state (record { order = 3; page = 2; limit = 4; records = 8; last = 60; live = 2; files = 1 })
    (record {
      log = worked_memory.log;
      index = worked_memory.index;
      table = worked_memory.table;
      catalogue = entry 20 2 5 ∷ entry 0 0 0 ∷ entry 99 98 9 ∷ [];
      areas = 3 ∷ 0 ∷ 0 ∷ 0 ∷ 12 ∷ 0 ∷ 0 ∷ 0 ∷ 7 ∷ 0 ∷ 0 ∷ 0 ∷ 50 ∷ 0 ∷ 0 ∷ 0 ∷ (zeros 16 ++ replicate 37 9);
    })

kept_is : keep_of worked 20 5 ≡ after (answers tt) kept20
unfolding computing
kept_is = refl

kept_reachable : Reachable kept20
unfolding computing
kept_reachable = kept 20 5 worked_reachable (lit< tt, lit< tt) refl

kept_audited : Audited kept20
unfolding computing
kept_audited = refl

-- gone on Friday: entry 0 and area 0 are zero
abbrev gone20 : State
gone20 =
    state worked_numbers
    (record {
      log = worked_memory.log;
      index = worked_memory.index;
      table = worked_memory.table;
      catalogue = worked_memory.catalogue;
      areas = zeros 32 ++ replicate 37 9;
    })

gone_is : drop_marked_of kept20 5 ≡ after (answers 1) gone20
unfolding computing
gone_is = refl

gone_reachable : Reachable gone20
unfolding computing
gone_reachable = marked_dropped 5 1 kept_reachable (lit< tt) refl

gone_audited : Audited gone20
unfolding computing
gone_audited = refl

-- the state with no file reached by an opening, with foreign areas
opened_reachable : Reachable worked
unfolding computing all_below
opened_reachable =
    let m = foreign worked_memory.log in
    started (opening m) (lendable m (record { log = tt; index = tt; table = tt; times = tt; rows = tt; marks = tt; areas = tt })) refl
