-- Keeping more is never worse (02, wish 9) on 01's log: the requests between that table and view report with a file added that is
-- nearer, and with one that is not; and three deletions in all their orders, one of them by a mark that two neighbours have, byte for byte.
-- Assumes nothing.
use Prim.Native.Nat.{ℕ, ◌^◌, ◌-◌}
use mathlib.Core.Path.{◌≡◌, refl}
use mathlib.Core.List.{List, [], ◌∷◌, ◌++◌, map}
use mathlib.Core.Bool.{Bool, true, false, ◌||◌, false≢true}
use lib.ListN.{replicate, take}
use lib.Dec.{eqb}
use Rattle.codec.specs.Parts.{zeros}
use Rattle.model.specs.declared.Entry.{Entry}
use Rattle.model.specs.declared.Side.{Side}
use Rattle.model.specs.declared.Side.TheVariants.{Earlier, Later}
use Rattle.model.specs.declared.Place.{Place}
use Rattle.model.specs.declared.Place.TheVariants.{Area, Current}
use Rattle.model.specs.declared.TableSaid.{TableSaid}
use Rattle.model.specs.declared.OutsetSaid.{OutsetSaid}
use Rattle.model.specs.Answers.{Outcome, answers}
use Rattle.model.specs.Memory.{State, state}
use Rattle.model.specs.Queries.{table_of, view_of}
use Rattle.model.specs.Audit.{audit_of}
use Rattle.model.specs.Calls.{Call, insert, delete, table, view, keep, drop, drop_marked, audit, run}
use Rattle.model.specs.Demands.{OneLog}
use Rattle.model.specs.MoreFiles.{HoldsEvery}
use Rattle.model.proofs.Compare.{or_right}
use Rattle.worked.proofs.Computing.{computing}
use Rattle.worked.proofs.WorkedLog.{worked, entry, table45}
use Rattle.worked.proofs.MarkCases.{with, blank, filed}

-- ---- more files, no more requests

-- what table and view answer: from where, its rows and side, and the requests between
record Reported : Type 0 where
  by_table : Outcome TableSaid
  by_view : Outcome OutsetSaid

abbrev reports : ℕ → Place → ℕ → Side → ℕ → Reported
reports shown place rows side n =
    record { by_table = answers (record { rows = shown; side = side; between = n }); by_view = answers (record { place = place; rows = rows; side = side; between = n }) }

-- at 30, 45, 55 and the last time that there is
abbrev reported : State → List Reported
reported st = map (λ (t : ℕ). record { by_table = (table_of st t (zeros 32)).outcome; by_view = (view_of st t).outcome }) (30 ∷ 45 ∷ 55 ∷ (2 ^ 64 - 1) ∷ [])

-- 20 kept, where two areas are lent
abbrev with_20 : State
with_20 = run worked (keep 20 0 ∷ [])

of-20 : reported with_20
    ≡ reports 2 (Area 0) 2 Earlier 2 ∷ reports 1 (Area 0) 2 Earlier 3 ∷ reports 2 Current 2 Later 2 ∷ reports 2 Current 2 Later 0 ∷ []
unfolding computing
of-20 = refl

-- and 40, which is nearer to three of them, where six are lent and 20 has another mark
abbrev with_40 : State
with_40 = run blank (keep 40 5 ∷ keep 20 7 ∷ [])

and-40 : reported with_40
    ≡ reports 2 (Area 1) 1 Later 1 ∷ reports 1 (Area 1) 1 Earlier 0 ∷ reports 2 (Area 1) 1 Earlier 1 ∷ reports 2 Current 2 Later 0 ∷ []
unfolding computing
and-40 = refl

-- and 10, which is nearer to none: the same numbers as with 20 alone
abbrev with_10 : State
with_10 = run blank (keep 20 7 ∷ keep 10 7 ∷ [])

and-10 : reported with_10
    ≡ reports 2 (Area 1) 2 Earlier 2 ∷ reports 1 (Area 1) 2 Earlier 3 ∷ reports 2 Current 2 Later 2 ∷ reports 2 Current 2 Later 0 ∷ []
unfolding computing
and-10 = refl

-- "for one log", and "a larger set"
nearer_holds_every : OneLog with_40 with_20 × HoldsEvery with_40 with_20
unfolding computing
nearer_holds_every = (record { same_count = refl; same_bytes = refl }, λ t. by (eqb 20 t) (eqb 40 t))
  where
    by : (a b : Bool) → (a || false) ≡ true → (a || (b || false)) ≡ true
    by true b h = refl
    by false b h = absurd (false≢true h)

other_holds_every : OneLog with_10 with_20 × HoldsEvery with_10 with_20
unfolding computing
other_holds_every = (record { same_count = refl; same_bytes = refl }, λ t. or_right (eqb 10 t) (eqb 20 t || false))

-- ---- the order of deletions

-- of 10, 20, 30, 40 and 60 the fourth stays: zeros up to the former count of five, the free area and all behind it as before
abbrev last : State
last = with 1 (entry 40 1 7 ∷ replicate 5 (entry 0 0 0)) (table45 ++ zeros 128)

-- three deletions in all their orders; then the neighbours one by one, refused ones among them, and queries and an audit between
unfoldable lists : List (List Call)
lists =
    (drop_marked 5 ∷ drop 10 ∷ drop 60 ∷ []) ∷ (drop_marked 5 ∷ drop 60 ∷ drop 10 ∷ []) ∷ (drop 10 ∷ drop_marked 5 ∷ drop 60 ∷ [])
    ∷ (drop 10 ∷ drop 60 ∷ drop_marked 5 ∷ []) ∷ (drop 60 ∷ drop_marked 5 ∷ drop 10 ∷ []) ∷ (drop 60 ∷ drop 10 ∷ drop_marked 5 ∷ [])
    ∷ (drop 30 ∷ drop 10 ∷ drop_marked 0 ∷ drop 20 ∷ drop_marked 5 ∷ drop 45 ∷ drop 60 ∷ drop 10 ∷ [])
    ∷ (drop 60 ∷ table 45 (zeros 32) ∷ drop 20 ∷ audit ∷ drop_marked 5 ∷ view 61 ∷ drop 10 ∷ []) ∷ []

any_order : map (run filed) lists ≡ replicate 8 last
unfolding computing lists
any_order = refl

last_audited : audit_of last ≡ true
unfolding computing
last_audited = refl

-- ---- requests between the deletions, in a log and an index with room for two more

abbrev roomy : State
roomy =
    let m = filed.memory in
    state filed.numbers
    (record { log = take 216 m.log ++ zeros 48; index = m.index ++ zeros 8; table = m.table; catalogue = m.catalogue; areas = m.areas })

record Filed : Type 0 where
  records : ℕ
  files : ℕ
  catalogue : List Entry
  areas : List ℕ

abbrev files_after : List Call → Filed
files_after cs =
    let st = run roomy cs in
    record { records = st.numbers.records; files = st.numbers.files; catalogue = st.memory.catalogue; areas = st.memory.areas }

abbrev left : ℕ → Filed
left n = record { records = n; files = 1; catalogue = last.memory.catalogue; areas = last.memory.areas }

requests-between : (files_after (drop 10 ∷ insert 70 5 1 ∷ drop_marked 5 ∷ delete 80 5 ∷ drop 60 ∷ []) ∷ files_after (drop 60 ∷ drop 10 ∷ drop_marked 5 ∷ []) ∷ [])
    ≡ left 10 ∷ left 8 ∷ []
unfolding computing
requests-between = refl
