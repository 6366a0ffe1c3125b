-- The choice of an outset (01, "Count files"; 02, wish 6), computed on 01's log; and of any two candidates by any measure: `choice`
-- tells the two cases apart, so that a law of the choice looks at no test. Assumes nothing.
use Prim.Native.Nat.{ℕ, ◌≤◌, ◌<◌}
use mathlib.Core.Path.{◌≡◌, refl}
use mathlib.Core.List.{List, [], ◌∷◌, ◌++◌, map}
use mathlib.Core.Bool.{Bool, true, false, cond}
use lib.ListN.{length, replicate}
use lib.Dec.{ltb}
use borrow.Author.Tests.{ltb-true, ltb-false}
use Rattle.codec.specs.LittleEndian.{number, bytes}
use Rattle.model.specs.declared.Entry.{Entry}
use Rattle.model.specs.declared.Held.{Held}
use Rattle.model.specs.declared.Chosen.{Chosen}
use Rattle.model.specs.declared.Side.TheVariants.{Earlier, Later}
use Rattle.model.specs.declared.Place.TheVariants.{Area}
use Rattle.model.specs.Records.{Rec, insertion, deletion, record_bytes, records_bytes, record_in, records}
use Rattle.model.specs.Timeslice.{up_to}
use Rattle.model.specs.Pages.{page_times_from}
use Rattle.model.specs.Tree.{keys_up_to}
use Rattle.model.specs.Memory.{State, state}
use Rattle.model.specs.Outset.{files_from, latest, earliest, between, chosen, choose_by, outset_for}

-- ---- 01's log, computed: requests up to 10, 20, 30, 40, 50, 60 are 1, 2, 4, 5, 6, 8

abbrev worked_log : List Rec
worked_log =
    insertion 0 10 7 50 ∷ insertion 1 20 3 12 ∷ deletion 2 30 7 50 ∷ insertion 3 30 7 44 ∷ deletion 4 40 3 12 ∷ insertion 5 50 9 5
    ∷ deletion 6 60 9 5 ∷ insertion 7 60 9 6 ∷ []

-- what the choice of an outset looks at, with these count files
abbrev pub with : List Entry → State
with files =
    state (record { order = 3; page = 2; limit = 4; records = 8; last = 60; live = 2; files = length files })
    (record { log = replicate 24 0 ++ records_bytes worked_log; index = []; table = []; catalogue = files; areas = [] })

abbrev kept : ℕ → ℕ → Entry
kept t k = record { time = t; rows = k; mark = 0 }

abbrev file : ℕ → ℕ → ℕ → Held
file i t k = record { time = t; place = Area i; rows = k }

-- "three requests against one, so the later is used"
fewer_later : outset_for (with (kept 10 1 ∷ kept 40 1 ∷ [])) 30 ≡ record { outset = file 1 40 1; side = Later; between = 1 }
unfolding number bytes record_bytes records_bytes record_in records up_to page_times_from keys_up_to files_from latest earliest choose_by
fewer_later = refl

-- "45 with 20 kept is now a tie of three and starts from 20"
tie_earlier : outset_for (with (kept 20 2 ∷ [])) 45 ≡ record { outset = file 0 20 2; side = Earlier; between = 3 }
unfolding number bytes record_bytes records_bytes record_in records up_to page_times_from keys_up_to files_from latest earliest choose_by
tie_earlier = refl

-- "a store holding a larger set of count files reports no more requests between" (wish 9): each of these holds all times of the one
-- before it. 20 and then 40 are nearer to some times, 10 to 15 alone, 50 to 55 alone
more_files : map (λ (files : List Entry). map (λ (t : ℕ). (outset_for (with files) t).between) (15 ∷ 25 ∷ 30 ∷ 45 ∷ 55 ∷ []))
    ([] ∷ (kept 20 2 ∷ []) ∷ (kept 20 2 ∷ kept 40 1 ∷ []) ∷ (kept 10 1 ∷ kept 20 2 ∷ kept 40 1 ∷ []) ∷ (kept 10 1 ∷ kept 20 2 ∷ kept 40 1 ∷ kept 50 2 ∷ []) ∷ [])
    ≡ (1 ∷ 2 ∷ 4 ∷ 3 ∷ 2 ∷ []) ∷ (1 ∷ 0 ∷ 2 ∷ 3 ∷ 2 ∷ []) ∷ (1 ∷ 0 ∷ 1 ∷ 0 ∷ 1 ∷ []) ∷ (0 ∷ 0 ∷ 1 ∷ 0 ∷ 1 ∷ []) ∷ (0 ∷ 0 ∷ 1 ∷ 0 ∷ 0 ∷ []) ∷ []
unfolding number bytes record_bytes records_bytes record_in records up_to page_times_from keys_up_to files_from latest earliest choose_by
more_files = refl

-- ---- the two cases

-- the later candidate where less lies between, else the earlier
pub data Choice (f : ℕ → ℕ) (t : ℕ) (early late : Held) : Chosen → Type 0 where
  later : between f t late < between f t early → Choice f t early late (chosen f t late Later)
  earlier : between f t early ≤ between f t late → Choice f t early late (chosen f t early Earlier)

pub choice : (f : ℕ → ℕ) (t : ℕ) (early late : Held) → Choice f t early late (choose_by f t early late)
unfolding choose_by
choice f t early late = by (ltb (between f t late) (between f t early)) refl
  where
    by : (b : Bool) → ltb (between f t late) (between f t early) ≡ b → Choice f t early late (cond b (chosen f t late Later) (chosen f t early Earlier))
    by true e = later (ltb-true _ _ e)
    by false e = earlier (ltb-false _ _ e)
