-- The requests between two times (02, wish 6), counted in the log itself. `requests_between` is what demand 3 cites;
-- `CountsBetween` says that larger less smaller is that number, and `FewestChosen` says by it which outset is used.
-- Assumes nothing.
use Rattle.std.specs.Prelude.{ℕ, max, min, ◌≤◌, ◌<◌, ◌≡◌, List, [], ◌∷◌, cond, ◌&&◌, length, leb, ltb}
use Rattle.model.specs.declared.Held.{Held}
use Rattle.model.specs.declared.Chosen.{Chosen}
use Rattle.model.specs.declared.Side.TheVariants.{Earlier, Later}
use Rattle.model.specs.Records.{Rec}
use Rattle.model.specs.Memory.{State, log_of}
use Rattle.model.specs.Outset.{between, measure, earlier_for, later_for, outset_for}

-- the records after time a, with time ≤ b
unfoldable pub records_between : ℕ → ℕ → List Rec → List Rec
records_between a b [] = []
records_between a b (r ∷ rs) = cond (ltb a r.time && leb r.time b) (r ∷ records_between a b rs) (records_between a b rs)

-- "requests between": after the smaller of two times, at or before the larger, an update's records both
abbrev pub requests_between : State → ℕ → ℕ → ℕ
requests_between st t u = length (records_between (min t u) (max t u) (log_of st))

-- the larger less the smaller of two request counts is their number, in every memory
abbrev pub CountsBetween : Type 0
CountsBetween = (st : State) (t : ℕ) (h : Held) → between (measure st) t h ≡ requests_between st t h.time

-- "of 01's two, the one with fewest requests between it and the wanted time, and the earlier one on a tie"
abbrev pub Fewest : State → ℕ → Chosen → Type 0
Fewest st t c =
    let before = requests_between st t (earlier_for st t).time in
    let after = requests_between st t (later_for st t).time in
    (after < before → c ≡ record { outset = later_for st t; side = Later; between = after })
    × (before ≤ after → c ≡ record { outset = earlier_for st t; side = Earlier; between = before })

-- so is the outset used, in every memory
abbrev pub FewestChosen : Type 0
FewestChosen = (st : State) (t : ℕ) → Fewest st t (outset_for st t)
