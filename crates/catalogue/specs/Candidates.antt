-- The two tables that an outset is chosen from (01, "Count files": "the nearest held time ≤ t (0 or a count file) against the
-- nearest held time ≥ t (a count file or the current table)"), of the lent entries and on any memory; and how they are found,
-- entry by entry. `candidates_in` is what the calls' contracts cite. Assumes nothing.
use Rattle.std.specs.Prelude.{ℕ, suc, ◌<◌, min, List, [], ◌∷◌, cond, ◌&&◌, length, take, leb, ltb}
use Rattle.model.specs.declared.Numbers.{Numbers}
use Rattle.model.specs.declared.Entry.{Entry}
use Rattle.model.specs.declared.Held.{Held}
use Rattle.model.specs.declared.Place.{Place}
use Rattle.model.specs.declared.Place.TheVariants.{Empty, Area, Current}
use Rattle.model.specs.Outset.{empty_table, files_from, latest, earliest}
use Rattle.model.specs.Queries.{answered_time}
use Rattle.catalogue.specs.declared.Candidates.{Candidates}

-- the current table, as held
abbrev pub held_now : Numbers → Held
held_now s = record { time = s.last; place = Current; rows = s.live }

-- the used entries that are looked at: a catalogue has at most 16
abbrev pub used_in : Numbers → List Entry → List Entry
used_in s entries = take (min 16 s.files) entries

-- the candidates where time t is asked for, and how many entries are lent
abbrev pub candidates_in : Numbers → ℕ → List Entry → Candidates
candidates_in s t entries =
    let at = answered_time s.last t in
    let files = files_from 0 (used_in s entries) in
    record { early = latest at empty_table files; late = earliest at (held_now s) files; lent = length entries }

-- an area, if it is one, is one of the first k
unfoldable pub PlaceWithin : ℕ → Place → Type 0
PlaceWithin k Empty = Unit
PlaceWithin k (Area i) = i < k
PlaceWithin k Current = Unit

-- ---- entry by entry

-- the table of entry i
abbrev pub held_at : ℕ → Entry → Held
held_at i e = record { time = e.time; place = Area i; rows = e.rows }

-- before any entry: the empty table of time 0, and the current table
abbrev pub none_around : Numbers → ℕ → Candidates
none_around s lent = record { early = empty_table; late = held_now s; lent = lent }

-- with entry i besides
abbrev pub nearer_by : ℕ → Candidates → ℕ → Entry → Candidates
nearer_by t c i e =
    record {
      early = cond (leb e.time t && ltb c.early.time e.time) (held_at i e) c.early;
      late = cond (leb t e.time && leb e.time c.late.time) (held_at i e) c.late;
      lent = c.lent;
    }

-- with the entries from number i on
unfoldable pub around_from : ℕ → Candidates → ℕ → List Entry → Candidates
around_from t c i [] = c
around_from t c i (e ∷ es) = around_from t (nearer_by t c i e) (suc i) es
