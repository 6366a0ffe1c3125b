-- The requests between two times (02, wish 6): in every memory the larger less the smaller of two request counts is the number
-- of records between, and the outset used is the one with fewest, the earlier on a tie. Assumes nothing.
use Prim.Native.Nat.{ℕ, ◌+◌, ◌≤◌, ◌<◌, max, min}
use mathlib.Core.Path.{◌≡◌, refl}
use mathlib.Core.List.{List, [], ◌∷◌}
use mathlib.Core.Bool.{Bool, true, false}
use native.Mathlib.Omega.{arith}
use lib.ListN.{length}
use lib.Dec.{leb}
use borrow.Author.Tests.{lt-ltb, le-ltb, leb-true, leb-false}
use Rattle.codec.specs.LittleEndian.{number, bytes}
use Rattle.model.specs.declared.Chosen.{Chosen}
use Rattle.model.specs.Records.{Rec, record_bytes, records_bytes, record_in, records}
use Rattle.model.specs.Timeslice.{up_to}
use Rattle.model.specs.Pages.{records_up_to}
use Rattle.model.specs.Memory.{State, log_of}
use Rattle.model.specs.Outset.{apart, between, measure, earlier_for, later_for, outset_for}
use Rattle.model.specs.Between.{records_between, requests_between, CountsBetween, Fewest, FewestChosen}
use Rattle.model.proofs.UpToLaws.{records_up_to_le}
use Rattle.model.proofs.ChoiceLaws.{with, Choice, choice}

-- computed on 01's log, in either order
three-between : (requests_between (with []) 10 30 ∷ requests_between (with []) 30 10 ∷ requests_between (with []) 30 40 ∷ []) ≡ 3 ∷ 3 ∷ 1 ∷ []
unfolding number bytes record_bytes records_bytes record_in records records_between
three-between = refl

-- those up to b are those up to a and those after it
up_to_and_between : (a b : ℕ) → a ≤ b → (rs : List Rec) → records_up_to a rs + length (records_between a b rs) ≡ records_up_to b rs
unfolding up_to records_between
up_to_and_between a b h [] = refl
up_to_and_between a b h (r ∷ rs) = by (up_to_and_between a b h rs) (leb r.time a) refl (leb r.time b) refl
  where
    by : records_up_to a rs + length (records_between a b rs) ≡ records_up_to b rs → (p : Bool) → leb r.time a ≡ p → (q : Bool) → leb r.time b ≡ q
        → records_up_to a (r ∷ rs) + length (records_between a b (r ∷ rs)) ≡ records_up_to b (r ∷ rs)
    by ih true e true f = let g : r.time ≤ a = leb-true _ _ e in rw (e, f, le-ltb a r.time g) (omega arith)
    by ih true e false f =
        let g : r.time ≤ a = leb-true _ _ e in
        let k : b < r.time = leb-false _ _ f in
        absurd (omega arith)
    by ih false e true f = let g : a < r.time = leb-false _ _ e in rw (e, f, lt-ltb a r.time g) (omega arith)
    by ih false e false f = let g : a < r.time = leb-false _ _ e in rw (e, f, lt-ltb a r.time g) ih

-- whichever of two times is the smaller
apart-between : (t u : ℕ) (rs : List Rec) → apart (records_up_to t rs) (records_up_to u rs) ≡ length (records_between (min t u) (max t u) rs)
apart-between t u rs = by (leb t u) refl
  where
    by : (q : Bool) → leb t u ≡ q → apart (records_up_to t rs) (records_up_to u rs) ≡ length (records_between (min t u) (max t u) rs)
    by true e =
        let h : t ≤ u = leb-true _ _ e in
        let low : min t u ≡ t = omega arith in
        let high : max t u ≡ u = omega arith in
        rw (low, high) (omega (arith, up_to_and_between t u h rs))
    by false e =
        let h : u < t = leb-false _ _ e in
        let low : min t u ≡ u = omega arith in
        let high : max t u ≡ t = omega arith in
        rw (low, high) (omega (arith, up_to_and_between u t (omega arith) rs))

-- the measure of nearness never falls
pub requests_rise : (st : State) (x y : ℕ) → x ≤ y → measure st x ≤ measure st y
requests_rise st x y h = records_up_to_le x y (log_of st) h

pub counts-between : CountsBetween
counts-between st t h = apart-between t h.time (log_of st)

pub fewest_chosen : FewestChosen
fewest_chosen st t = by (outset_for st t) (choice (measure st) t (earlier_for st t) (later_for st t))
  where
    before : between (measure st) t (earlier_for st t) ≡ requests_between st t (earlier_for st t).time
    before = counts-between st t (earlier_for st t)

    after : between (measure st) t (later_for st t) ≡ requests_between st t (later_for st t).time
    after = counts-between st t (later_for st t)

    by : (c : Chosen) → Choice (measure st) t (earlier_for st t) (later_for st t) c → Fewest st t c
    by c (Choice.later h) = (λ g. rw after, λ g. absurd (omega (arith, before, after)))
    by c (Choice.earlier h) = (λ g. absurd (omega (arith, before, after)), λ g. rw before)
