-- 01's log by hand ("One log by hand") as a state, and the cases that 01 marks P as one test over one list, those of outsets
-- as 02 has them (wish 6), computed on the definitions that the calls' contracts cite. Outputs are longer than asked:
-- "what lies past them is unchanged". Assumes nothing.
use Prim.Native.Nat.{ℕ}
use mathlib.Core.Path.{◌≡◌, refl}
use mathlib.Core.List.{List, [], ◌∷◌, ◌++◌, map}
use lib.ListN.{replicate, take}
use Rattle.codec.specs.Parts.{zeros}
use Rattle.model.specs.declared.Numbers.{Numbers}
use Rattle.model.specs.declared.Entry.{Entry}
use Rattle.model.specs.declared.Position.{Position}
use Rattle.model.specs.declared.Side.{Side}
use Rattle.model.specs.declared.Side.TheVariants.{Earlier, Later}
use Rattle.model.specs.declared.Place.{Place}
use Rattle.model.specs.declared.Place.TheVariants.{Area}
use Rattle.worked.proofs.Computing.{computing}
use Rattle.model.specs.declared.TableSaid.{TableSaid}
use Rattle.model.specs.Answers.{Outcome, answers}
use Rattle.model.specs.Records.{Rec, insertion, deletion, records_bytes, header_bytes}
use Rattle.model.specs.Memory.{Memory, State, state}
use Rattle.model.specs.Outset.{between, measure, earlier_for, later_for}
use Rattle.model.specs.Queries.{position_of, Written, table_of, Viewed, view_of, Netted, net_of}
use Rattle.model.specs.Calls.{keep, run}

-- ---- the state

-- "Time 10 insert 7 with 50; 20 insert 3 with 12; 30 update 7 to 44; 40 delete 3; 50 insert 9 with 5; 60 update 9 to 6"
abbrev pub worked_records : List Rec
worked_records =
    insertion 0 10 7 50 ∷ insertion 1 20 3 12 ∷ deletion 2 30 7 50 ∷ insertion 3 30 7 44 ∷ deletion 4 40 3 12 ∷ insertion 5 50 9 5
    ∷ deletion 6 60 9 5 ∷ insertion 7 60 9 6 ∷ []

-- "d = 3, N = 2, R = 4", "Eight records"
abbrev pub worked_numbers : Numbers
worked_numbers = record { order = 3; page = 2; limit = 4; records = 8; last = 60; live = 2; files = 0 }

abbrev pub entry : (t rows mark : ℕ) → Entry
entry t rows mark = record { time = t; rows = rows; mark = mark }

-- behind log, index, table and catalogue lie three foreign bytes, two words, two bytes and an entry; the areas, of two
-- tables and five bytes, are foreign
abbrev pub worked_memory : Memory
worked_memory =
    record {
      log = header_bytes worked_numbers ++ (records_bytes worked_records ++ (201 ∷ 202 ∷ 203 ∷ []));
      index = 10 ∷ 30 ∷ 30 ∷ 0 ∷ 40 ∷ 60 ∷ 777 ∷ 888 ∷ [];
      table = 7 ∷ 0 ∷ 0 ∷ 0 ∷ 44 ∷ 0 ∷ 0 ∷ 0 ∷ 9 ∷ 0 ∷ 0 ∷ 0 ∷ 6 ∷ 0 ∷ 0 ∷ 0 ∷ (zeros 16 ++ (211 ∷ 212 ∷ []));
      catalogue = entry 0 0 0 ∷ entry 0 0 0 ∷ entry 99 98 9 ∷ [];
      areas = replicate 69 9;
    }

abbrev pub worked : State
worked = state worked_numbers worked_memory

-- ---- asks and results

data Ask : Type 0 where
  position : (t : ℕ) → Ask
  table_for : (t : ℕ) → Ask
  net : (a b : ℕ) → Ask
  outset : (kept : List ℕ) (t : ℕ) → Ask

-- an outset: what the view hands back, what the table call leaves, and the requests between of the two candidates
data Result : Type 0 where
  at : Outcome Position → Result
  written : Written TableSaid → Result
  netted : Netted → Result
  started : Viewed → Written TableSaid → (earlier later : ℕ) → Result

record Case : Type 0 where
  ask : Ask
  expected : Result

abbrev outset_in : State → ℕ → Result
outset_in st t =
    started (view_of st t) (table_of st t (replicate 33 77)) (between (measure st) t (earlier_for st t)) (between (measure st) t (later_for st t))

abbrev answer : Ask → Result
answer (position t) = at (position_of worked t)
answer (table_for t) = written (table_of worked t (replicate 33 77))
answer (net a b) = netted (net_of worked a b (replicate 97 77) (replicate 65 77))
answer (outset kept t) = outset_in (run worked (map (λ (u : ℕ). keep u 0) kept)) t

abbrev case : Ask → Result → Case
case a r = record { ask = a; expected = r }

-- ---- the cases

-- "the table of 20 is 3:12, 7:50; of 30, 3:12, 7:44; of 45, 7:44", each in 8 × R bytes
abbrev pub table20 : List ℕ
table20 = 3 ∷ 0 ∷ 0 ∷ 0 ∷ 12 ∷ 0 ∷ 0 ∷ 0 ∷ 7 ∷ 0 ∷ 0 ∷ 0 ∷ 50 ∷ 0 ∷ 0 ∷ 0 ∷ zeros 16

abbrev pub table30 : List ℕ
table30 = 3 ∷ 0 ∷ 0 ∷ 0 ∷ 12 ∷ 0 ∷ 0 ∷ 0 ∷ 7 ∷ 0 ∷ 0 ∷ 0 ∷ 44 ∷ 0 ∷ 0 ∷ 0 ∷ zeros 16

abbrev pub table45 : List ℕ
table45 = 7 ∷ 0 ∷ 0 ∷ 0 ∷ 44 ∷ 0 ∷ 0 ∷ 0 ∷ zeros 24

-- "delete 3:12, delete 7:50, insert 7:44", in 24 × R bytes
abbrev pub change20to45 : List ℕ
change20to45 =
    12 ∷ 0 ∷ 3 ∷ 0 ∷ 3 ∷ 0 ∷ 0 ∷ 0 ∷ 12 ∷ 0 ∷ 0 ∷ 0
    ∷ 12 ∷ 0 ∷ 3 ∷ 0 ∷ 7 ∷ 0 ∷ 0 ∷ 0 ∷ 50 ∷ 0 ∷ 0 ∷ 0
    ∷ 12 ∷ 0 ∷ 2 ∷ 0 ∷ 7 ∷ 0 ∷ 0 ∷ 0 ∷ 44 ∷ 0 ∷ 0 ∷ 0 ∷ zeros 60

abbrev pub located : (page requests : ℕ) → Outcome Position
located page requests = answers (record { page = record { 0 = page }; requests = requests })

abbrev pub told : ℕ → Side → ℕ → List ℕ → Written TableSaid
told k side n out = record { outcome = answers (record { rows = k; side = side; between = n }); output = out ++ (77 ∷ []) }

abbrev pub changes : ℕ → List ℕ → List ℕ → Netted
changes k out work = record { outcome = answers k; output = out ++ (77 ∷ []); workspace = work ++ (77 ∷ []) }

abbrev pub seen : Place → ℕ → Side → ℕ → List ℕ → Viewed
seen place k side n part = record { outcome = answers (record { place = place; rows = k; side = side; between = n }); rows = part }

-- each marked P in 01, a position with its requests; of outsets 02's, which change 01's two: "45 with 20 kept is now a tie
-- of three and starts from 20, and 30 with only 40 kept starts from 40", and "With 10 and 40 kept"
cases : List Case
cases =
    case (position 0) (at (located 0 0)) ∷ case (position 29) (at (located 0 2)) ∷ case (position 30) (at (located 1 4))
    ∷ case (position 35) (at (located 1 4)) ∷ case (position 40) (at (located 2 5)) ∷ case (position 60) (at (located 3 8))
    ∷ case (table_for 20) (written (told 2 Earlier 2 table20))
    ∷ case (table_for 30) (written (told 2 Earlier 4 table30))
    ∷ case (table_for 45) (written (told 1 Later 3 table45))
    ∷ case (net 20 45) (netted (changes 3 change20to45 (table20 ++ table45)))
    ∷ case (net 30 35) (netted (changes 0 (zeros 96) (table30 ++ table30)))
    ∷ case (outset (20 ∷ []) 45) (started (seen (Area 0) 2 Earlier 3 (take 16 table20)) (told 1 Earlier 3 table45) 3 3)
    ∷ case (outset (40 ∷ []) 30) (started (seen (Area 0) 1 Later 1 (take 8 table45)) (told 2 Later 1 table30) 4 1)
    ∷ case (outset (10 ∷ 40 ∷ []) 30) (started (seen (Area 1) 1 Later 1 (take 8 table45)) (told 2 Later 1 table30) 3 1)
    ∷ []

worked_cases : map (λ (c : Case). answer c.ask) cases ≡ map (λ (c : Case). c.expected) cases
unfolding computing cases
worked_cases = refl
