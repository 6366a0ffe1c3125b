-- Held tables and the choice of outset (01, "Table", "Count files"; 02, wish 6). `held` and `outset_for` are what
-- contracts and demand 3 cite; the measure of nearness is a parameter of the choice. Assumes nothing.
use Rattle.std.specs.Prelude.{ℕ, suc, ◌-◌, max, min, List, [], ◌∷◌, ◌++◌, cond, ◌&&◌, take, leb, ltb}
use Rattle.model.specs.declared.Entry.{Entry}
use Rattle.model.specs.declared.Side.{Side}
use Rattle.model.specs.declared.Side.TheVariants.{Earlier, Later}
use Rattle.model.specs.declared.Held.{Held}
use Rattle.model.specs.declared.Chosen.{Chosen}
use Rattle.model.specs.declared.Place.TheVariants.{Empty, Area, Current}
use Rattle.model.specs.Memory.{State}
use Rattle.model.specs.Positions.{position_at}

-- "The empty table of time 0 always counts as held"
abbrev pub empty_table : Held
empty_table = record { time = 0; place = Empty; rows = 0 }

-- "the current table as held at the last request's time"
abbrev pub current_table : State → Held
current_table st = record { time = st.numbers.last; place = Current; rows = st.numbers.live }

-- "a count file from the accepted keep of its time": the used entries, entry i's table in area i
unfoldable pub files_from : ℕ → List Entry → List Held
files_from i [] = []
files_from i (e ∷ es) = record { time = e.time; place = Area i; rows = e.rows } ∷ files_from (suc i) es

abbrev pub files_held : State → List Held
files_held st = files_from 0 (take st.numbers.files st.memory.catalogue)

abbrev pub held : State → List Held
held st = empty_table ∷ (files_held st ++ (current_table st ∷ []))

-- ---- the two candidates for t

-- "the nearest held time ≤ t (0 or a count file)": the latest of those at or before t
unfoldable pub latest : ℕ → Held → List Held → Held
latest t best [] = best
latest t best (h ∷ hs) = latest t (cond (leb h.time t && ltb best.time h.time) h best) hs

abbrev pub earlier_for : State → ℕ → Held
earlier_for st t = latest t empty_table (files_held st)

-- "the nearest held time ≥ t (a count file or the current table)": the earliest of those at or after t; "A count
-- file at the last time goes before the current table"
unfoldable pub earliest : ℕ → Held → List Held → Held
earliest t best [] = best
earliest t best (h ∷ hs) = earliest t (cond (leb t h.time && leb h.time best.time) h best) hs

abbrev pub later_for : State → ℕ → Held
later_for st t = earliest t (current_table st) (files_held st)

-- ---- nearness

-- "the larger less the smaller" of two numbers
abbrev pub apart : ℕ → ℕ → ℕ
apart x y = max x y - min x y

-- what nearness is measured in: "Nearness counted in requests"
abbrev pub measure : State → ℕ → ℕ
measure st t = (position_at st t).requests

-- what lies between a held table and t: with that measure, the "requests between"
abbrev pub between : (ℕ → ℕ) → ℕ → Held → ℕ
between f t h = apart (f t) (f h.time)

-- the outset used, with its side and what lies between
abbrev pub chosen : (ℕ → ℕ) → ℕ → Held → Side → Chosen
chosen f t h side = record { outset = h; side = side; between = between f t h }

-- "the one with fewest requests between it and the wanted time, and the earlier one on a tie"
unfoldable pub choose_by : (ℕ → ℕ) → ℕ → Held → Held → Chosen
choose_by f t early late = cond (ltb (between f t late) (between f t early)) (chosen f t late Later) (chosen f t early Earlier)

abbrev pub outset_for : State → ℕ → Chosen
outset_for st t = choose_by (measure st) t (earlier_for st t) (later_for st t)
