-- Page and requests of positions (02, wish 5), computed: 01's log time by time, with pages of two records and of four, and an
-- update split over two pages. Assumes nothing.
use Prim.Native.Nat.{ℕ}
use mathlib.Core.Path.{◌≡◌, refl}
use mathlib.Core.List.{List, [], ◌∷◌, map}
use Rattle.model.specs.declared.Position.{Position}
use Rattle.model.specs.Records.{Rec, insertion, deletion}
use Rattle.model.specs.Positions.{position_in}
use Rattle.model.specs.Queries.{position_of}
use Rattle.worked.proofs.Computing.{computing}
use Rattle.worked.proofs.WorkedLog.{worked, worked_records, located}

abbrev on : ℕ → ℕ → Position
on page requests = record { page = record { 0 = page }; requests = requests }

-- 9 is before the first request and 10 on the first page: both have page 0
by_hand : map (position_of worked) (9 ∷ 10 ∷ 19 ∷ 20 ∷ 39 ∷ 45 ∷ 50 ∷ 59 ∷ [])
    ≡ located 0 0 ∷ located 0 1 ∷ located 0 1 ∷ located 0 2 ∷ located 1 4 ∷ located 2 5 ∷ located 2 6 ∷ located 2 6 ∷ []
unfolding computing
by_hand = refl

-- pages of four: the update at 30 ends the first page, both of its records counted there
pages_of_four : map (position_in 4 worked_records) (9 ∷ 10 ∷ 29 ∷ 30 ∷ 39 ∷ 40 ∷ 60 ∷ [])
    ≡ on 0 0 ∷ on 0 1 ∷ on 0 2 ∷ on 0 4 ∷ on 0 4 ∷ on 1 5 ∷ on 1 8 ∷ []
unfolding computing
pages_of_four = refl

-- insert 7 at 10, update 7 at 20, N = 2: the deletion ends page 0 and the insertion begins page 1
abbrev split : List Rec
split = insertion 0 10 7 50 ∷ deletion 1 20 7 50 ∷ insertion 2 20 7 44 ∷ []

split-counts-both : map (position_in 2 split) (9 ∷ 10 ∷ 19 ∷ 20 ∷ 21 ∷ []) ≡ on 0 0 ∷ on 0 1 ∷ on 0 1 ∷ on 1 3 ∷ on 1 3 ∷ []
unfolding computing
split-counts-both = refl
