-- The outset used (02, wish 6), computed: of each case the view's answer, and of both candidates the requests between, by
-- counts and by the log's records, and the pages between, by which 01 chose. Assumes nothing.
use Prim.Native.Nat.{ℕ}
use mathlib.Core.Path.{◌≡◌, refl}
use mathlib.Core.List.{List, [], ◌∷◌, ◌++◌, map}
use lib.ListN.{replicate}
use Rattle.codec.specs.Parts.{zeros}
use Rattle.model.specs.declared.Numbers.{Numbers}
use Rattle.model.specs.declared.Held.{Held}
use Rattle.model.specs.declared.Side.{Side}
use Rattle.model.specs.declared.Side.TheVariants.{Earlier, Later}
use Rattle.model.specs.declared.Place.{Place}
use Rattle.model.specs.declared.Place.TheVariants.{Empty, Area, Current}
use Rattle.model.specs.declared.OutsetSaid.{OutsetSaid}
use Rattle.model.specs.Answers.{Outcome, answers}
use Rattle.model.specs.Records.{Rec, insertion, deletion, records_bytes, header_bytes}
use Rattle.model.specs.Memory.{State}
use Rattle.model.specs.Positions.{position_at}
use Rattle.model.specs.Outset.{between, measure, earlier_for, later_for}
use Rattle.model.specs.Between.{requests_between}
use Rattle.model.specs.Starts.{open_of}
use Rattle.model.specs.Queries.{view_of}
use Rattle.model.specs.Calls.{keep, run}
use Rattle.worked.proofs.Computing.{computing}
use Rattle.worked.proofs.WorkedLog.{worked_records, entry}
use Rattle.worked.proofs.QuestionOne.{numbers_of}

-- a store opened on a log, with areas for two files
abbrev opened : Numbers → List Rec → State
opened s rs =
    (open_of (record {
      log = header_bytes s ++ records_bytes rs;
      index = replicate 8 0;
      table = zeros 32;
      catalogue = replicate 2 (entry 0 0 0);
      areas = zeros 64;
    })
    ).state

-- ---- the logs

-- 01's log, with pages of two records and of four. Requests up to 10, 20, 30, 40, 50, 60: 1, 2, 4, 5, 6, 8
abbrev by_twos : State
by_twos = opened (numbers_of 3 2 4 8 60 0 0) worked_records

abbrev by_fours : State
by_fours = opened (numbers_of 3 4 4 8 60 0 0) worked_records

-- insert 7 at 10, update it at 20, insert 3 at 30 and 9 at 40, with pages of two: the update's deletion ends page 0 and its
-- insertion begins page 1. Requests up to 10, 20, 30, 40: 1, 3, 4, 5
abbrev split : State
split =
    opened (numbers_of 3 2 4 5 40 0 0)
    (insertion 0 10 7 50 ∷ deletion 1 20 7 50 ∷ insertion 2 20 7 44 ∷ insertion 3 30 3 12 ∷ insertion 4 40 9 5 ∷ [])

-- ---- the cases

-- two numbers, of the earlier candidate and of the later
record Both : Type 0 where
  earlier : ℕ
  later : ℕ

abbrev both : ℕ → ℕ → Both
both x y = record { earlier = x; later = y }

record Seen : Type 0 where
  used : Outcome OutsetSaid
  requests : Both
  counted : Both
  pages : Both

record Case : Type 0 where
  log : State
  kept : List ℕ
  time : ℕ
  expected : Seen

abbrev of_both : State → ℕ → (Held → ℕ) → Both
of_both st t f = both (f (earlier_for st t)) (f (later_for st t))

abbrev seen_at : State → ℕ → Seen
seen_at st t =
    record {
      used = (view_of st t).outcome;
      requests = of_both st t (between (measure st) t);
      counted = of_both st t (λ h. requests_between st t h.time);
      pages = of_both st t (between (λ u. (position_at st u).page.0) t);
    }

abbrev seen : Case → Seen
seen c = seen_at (run c.log (map (λ (u : ℕ). keep u 7) c.kept)) c.time

abbrev starts : Place → ℕ → Side → ℕ → (requests pages : Both) → Seen
starts place k side n requests pages =
    record { used = answers (record { place = place; rows = k; side = side; between = n }); requests = requests; counted = requests; pages = pages }

abbrev case : State → List ℕ → ℕ → Seen → Case
case st kept t expected = record { log = st; kept = kept; time = t; expected = expected }

cases : List Case
cases =
    -- "time 30 has one page either way but three requests against one, so the later is used"
    case by_twos (10 ∷ 40 ∷ []) 30 (starts (Area 1) 1 Later 1 (both 3 1) (both 1 1))
    -- "45 with 20 kept is now a tie of three and starts from 20, and 30 with only 40 kept starts from 40"
    ∷ case by_twos (20 ∷ []) 45 (starts (Area 0) 2 Earlier 3 (both 3 3) (both 2 1))
    ∷ case by_twos (40 ∷ []) 30 (starts (Area 0) 1 Later 1 (both 4 1) (both 1 1))
    -- the two records at 30 lie after 20 and not after 30
    ∷ case by_twos (20 ∷ 40 ∷ []) 30 (starts (Area 1) 1 Later 1 (both 2 1) (both 1 1))
    -- 59 is nearer to 60 in time
    ∷ case by_twos (40 ∷ []) 59 (starts (Area 0) 1 Earlier 1 (both 1 2) (both 0 1))
    -- 40 is nearer to 60 in pages
    ∷ case by_fours (30 ∷ []) 40 (starts (Area 0) 2 Earlier 1 (both 1 3) (both 1 0))
    -- with the update counted once there would be a tie of two
    ∷ case split [] 20 (starts Current 3 Later 2 (both 3 2) (both 1 1))
    ∷ case split (10 ∷ []) 20 (starts (Area 0) 1 Earlier 2 (both 2 2) (both 1 1))
    ∷ case split (30 ∷ []) 15 (starts Empty 0 Earlier 1 (both 1 3) (both 0 1))
    ∷ []

outset_cases : map seen cases ≡ map (λ (c : Case). c.expected) cases
unfolding computing cases
outset_cases = refl
