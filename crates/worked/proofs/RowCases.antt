-- Legal logs, tables as rows, and net changes (01, "Log bytes", "Table", "Count files"), computed on small lists.
-- Assumes nothing.
use Prim.Native.Nat.{ℕ}
use mathlib.Core.Path.{◌≡◌, refl}
use mathlib.Core.List.{List, [], ◌∷◌, map}
use mathlib.Core.Bool.{Bool, true, false}
use lib.ListN.{length, replicate}
use Rattle.codec.specs.Parts.{zeros}
use Rattle.model.specs.Records.{Rec, insertion, deletion}
use Rattle.model.specs.Rows.{Row, row, same_rows, table_bytes}
use Rattle.model.specs.Timeslice.{timeslice}
use Rattle.model.specs.Legal.{legal, last_time, first_wrong}
use Rattle.model.specs.NetChange.{Change, inserts, deletes, leads, net_change, net_change_bytes}
use Rattle.worked.proofs.Computing.{computing}
use Rattle.worked.proofs.WorkedLog.{worked_records}

-- ---- legal logs

-- "Times are at least 1 and rise strictly, except that an update is a deletion and then an insertion of one article at one
-- time … A third record at that time is wrong"; with R = 2, 01's log too
right : map (legal 2)
    ([] ∷ (insertion 0 1 5 8 ∷ []) ∷ (insertion 0 10 5 8 ∷ deletion 1 20 5 8 ∷ insertion 2 20 5 9 ∷ []) ∷ (insertion 0 10 5 8 ∷ deletion 1 20 5 8 ∷ insertion 2 20 5 8 ∷ [])
    ∷ (insertion 0 10 0 0 ∷ insertion 1 11 4294967295 4294967295 ∷ deletion 2 12 0 0 ∷ insertion 3 13 0 0 ∷ []) ∷ worked_records ∷ []) ≡ replicate 6 true
unfolding computing
right = refl

-- ins, del at one time; del a, ins b; del, del; del, ins, del; ins, ins; time 0; a time that falls; one that stays
wrong_times : map (legal 2)
    ((insertion 0 10 5 8 ∷ deletion 1 10 5 8 ∷ []) ∷ (insertion 0 10 5 8 ∷ deletion 1 20 5 8 ∷ insertion 2 20 6 9 ∷ [])
    ∷ (insertion 0 10 5 8 ∷ insertion 1 20 6 8 ∷ deletion 2 30 5 8 ∷ deletion 3 30 6 8 ∷ [])
    ∷ (insertion 0 10 5 8 ∷ deletion 1 20 5 8 ∷ insertion 2 20 5 9 ∷ deletion 3 20 5 9 ∷ []) ∷ (insertion 0 10 5 8 ∷ insertion 1 10 6 8 ∷ [])
    ∷ (insertion 0 0 5 8 ∷ []) ∷ (insertion 0 10 5 8 ∷ insertion 1 9 6 8 ∷ []) ∷ (insertion 0 10 5 8 ∷ deletion 1 20 5 8 ∷ insertion 2 20 5 9 ∷ insertion 3 20 6 9 ∷ []) ∷ [])
    ≡ replicate 8 false
unfolding computing
wrong_times = refl

abbrev raw : (size kind id : ℕ) → Rec
raw size kind id = record { size = size; kind = kind; id = id; time = 10; article = 5; count = 8 }

-- length, kind and id: "id (4; the record number from 0)"; "An insertion needs its article absent; a deletion needs it
-- present and repeats its count"
wrong_forms : map (legal 2)
    ((raw 25 2 0 ∷ []) ∷ (raw 24 1 0 ∷ []) ∷ (raw 24 4 0 ∷ []) ∷ (raw 24 2 1 ∷ []) ∷ (insertion 0 10 5 8 ∷ insertion 1 20 5 9 ∷ [])
    ∷ (deletion 0 10 5 8 ∷ []) ∷ (insertion 0 10 5 8 ∷ deletion 1 20 6 8 ∷ []) ∷ (insertion 0 10 5 8 ∷ deletion 1 20 5 9 ∷ []) ∷ []) ≡ replicate 8 false
unfolding computing
wrong_forms = refl

-- "At most R rows live", after each record: a row too many that goes again is wrong all the same, at its own number
abbrev crowded : List Rec
crowded = insertion 0 10 5 8 ∷ insertion 1 20 6 8 ∷ deletion 2 30 6 8 ∷ []

row_limit : (legal 2 crowded ∷ legal 1 crowded ∷ []) ≡ true ∷ false ∷ []
unfolding computing
row_limit = refl

-- the smallest wrong number, or the number of records; the last time, 0 where there is no record
first_wrong_lem : (first_wrong 1 crowded ∷ first_wrong 2 crowded ∷ first_wrong 2 (insertion 0 10 5 8 ∷ deletion 1 20 5 8 ∷ insertion 2 20 6 9 ∷ []) ∷ first_wrong 4 worked_records
    ∷ last_time worked_records ∷ last_time [] ∷ []) ≡ 1 ∷ 3 ∷ 2 ∷ 8 ∷ 60 ∷ 0 ∷ []
unfolding computing
first_wrong_lem = refl

-- ---- tables

-- "article 0 with count 0 is a row, though its bytes are zero"
zero_row : (same_rows (row 0 0 ∷ []) [] ∷ same_rows [] (row 0 0 ∷ []) ∷ same_rows (row 0 0 ∷ []) (row 0 0 ∷ []) ∷ []) ≡ false ∷ false ∷ true ∷ []
unfolding computing
zero_row = refl

zero_row-bytes : table_bytes 1 (row 0 0 ∷ []) ≡ table_bytes 1 []
unfolding computing
zero_row-bytes = refl

-- "the rows of insertions with time ≤ t, where no later record of that article has time ≤ t": an update is whole or not
-- there, and its own deletion does not take its insertion away
slices : map (λ t. timeslice t worked_records) (0 ∷ 9 ∷ 10 ∷ 29 ∷ 30 ∷ 40 ∷ 60 ∷ 99 ∷ [])
    ≡ [] ∷ [] ∷ (row 7 50 ∷ []) ∷ (row 3 12 ∷ row 7 50 ∷ []) ∷ (row 3 12 ∷ row 7 44 ∷ []) ∷ (row 7 44 ∷ []) ∷ (row 7 44 ∷ row 9 6 ∷ []) ∷ (row 7 44 ∷ row 9 6 ∷ []) ∷ []
unfolding computing
slices = refl

-- ---- net changes

abbrev of20 : List Row
of20 = row 3 12 ∷ row 7 50 ∷ []

abbrev of45 : List Row
of45 = row 7 44 ∷ []

abbrev leading : List Change → Bool
leading cs = leads cs of20 of45

-- 01's list, and its two deletions exchanged: "may have any order"
leads_there : map leading
    ((deletes (row 3 12) ∷ deletes (row 7 50) ∷ inserts (row 7 44) ∷ []) ∷ (deletes (row 7 50) ∷ deletes (row 3 12) ∷ inserts (row 7 44) ∷ [])
    ∷ (inserts (row 9 1) ∷ deletes (row 9 1) ∷ deletes (row 3 12) ∷ deletes (row 7 50) ∷ inserts (row 7 1) ∷ deletes (row 7 1) ∷ inserts (row 7 44) ∷ []) ∷ []) ≡ replicate 3 true
unfolding computing
leads_there = refl

-- a count that is not there; an insertion before its article has gone; no list; a deletion too few; another kind
leads_astray : map leading
    ((deletes (row 3 13) ∷ deletes (row 7 50) ∷ inserts (row 7 44) ∷ []) ∷ (deletes (row 3 12) ∷ inserts (row 7 44) ∷ deletes (row 7 50) ∷ []) ∷ []
    ∷ (deletes (row 7 50) ∷ inserts (row 7 44) ∷ []) ∷ (record { kind = 1; article = 3; count = 12 } ∷ deletes (row 7 50) ∷ inserts (row 7 44) ∷ []) ∷ []) ≡ replicate 5 false
unfolding computing
leads_astray = refl

-- "ascending by article, a deletion before an insertion of the same article"; the other way round; alike rows have none
net_changes : (net_change of20 of45 ∷ net_change of45 of20 ∷ net_change of20 of20 ∷ net_change [] (row 0 0 ∷ []) ∷ [])
    ≡ (deletes (row 3 12) ∷ deletes (row 7 50) ∷ inserts (row 7 44) ∷ []) ∷ (inserts (row 3 12) ∷ deletes (row 7 44) ∷ inserts (row 7 50) ∷ []) ∷ []
    ∷ (inserts (row 0 0) ∷ []) ∷ []
unfolding computing
net_changes = refl

-- a full table into another with no row in common: as many entries as 24 × R bytes hold; "The row limit does not apply while
-- a list is carried out", the insertions all coming first
abbrev low : List Row
low = row 1 1 ∷ row 2 1 ∷ []

abbrev high : List Row
high = row 5 1 ∷ row 6 1 ∷ []

full_change : net_change high low ≡ inserts (row 1 1) ∷ inserts (row 2 1) ∷ deletes (row 5 1) ∷ deletes (row 6 1) ∷ []
unfolding computing
full_change = refl

full_change_leads : leads (net_change high low) high low ≡ true
unfolding computing
full_change_leads = refl

full_change_bytes : length (net_change_bytes 2 (net_change high low)) ≡ 48
unfolding computing
full_change_bytes = refl

-- "length 12 (2), kind 2 or 3 (2), article (4), count (4)", then zeros
one_change_bytes : net_change_bytes 1 (deletes (row 258 3) ∷ []) ≡ 12 ∷ 0 ∷ 3 ∷ 0 ∷ 2 ∷ 1 ∷ 0 ∷ 0 ∷ 3 ∷ 0 ∷ 0 ∷ 0 ∷ zeros 12
unfolding computing
one_change_bytes = refl
