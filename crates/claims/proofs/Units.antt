-- Units on hand (02, wish 1): after every list of calls from an accepted start the units of each time are the counts
-- inserted less the counts deleted and what the table call's output adds up to, and a difference is second less first.
-- Assumes nothing.
use Prim.Native.Nat.{ℕ, ◌+◌, ◌*◌, ◌-◌, ◌^◌, ◌≤◌, ◌<◌}
use mathlib.Core.Path.{◌≡◌, sym, ◌∙◌}
use mathlib.Core.List.{List, ◌++◌, append_assoc}
use native.Mathlib.Omega.{arith}
use lib.ListN.{length, drop}
use Rattle.codec.specs.Parts.{zeros, put}
use Rattle.model.specs.Answers.{answers}
use Rattle.model.specs.Rows.{table_bytes}
use Rattle.model.specs.Memory.{State}
use Rattle.model.specs.Queries.{answered_time, rows_at, table_said, table_of}
use Rattle.model.specs.Audit.{Audited}
use Rattle.model.specs.Units.{units_at, difference, units_of, difference_of, sum_of, sum_in, AddsUp, UnitsTell, DifferenceTells}
use Rattle.model.specs.Facts.{InOrder}
use Rattle.model.specs.Demands.{left, UnitsTold}
use Rattle.model.proofs.AuditLaws.{audited_facts}
use Rattle.model.proofs.LateLaws.{rows_as_asked, units_as_asked}
use Rattle.model.proofs.UnitsLaws.{units_agree, sum_below}
use Rattle.model.proofs.SignedLaws.{less_rose, less_fell, less_none, less_within}
use Rattle.rows.proofs.Sums.{sum_in_rows}
use Rattle.claims.proofs.FactLaws.{rows_few, rows_small}
use Rattle.claims.proofs.SecondDemands.{table_accepted, table_answered}
use Rattle.claims.proofs.Lists.{stays_in_order}
use Rattle.claims.proofs.Positions.{standing_accepted}

-- ---- accepted

module _ (st : State) (a : Audited st) where
  units-answered : (t : ℕ) → units_of st t ≡ answers (units_at st t)
  unfolding units_of
  units-answered t = rw (standing_accepted st a, units_as_asked st (audited_facts st a) t)

  difference-answered : (x y : ℕ) → difference_of st x y ≡ answers (difference st x y)
  unfolding difference_of difference
  difference-answered x y =
      let f = audited_facts st a in
      rw (standing_accepted st a, units_as_asked st f x, units_as_asked st f y)

-- ---- the units of a time

module _ (st : State) (o : InOrder st) (t : ℕ) where
  -- as many rows as there can be, of the largest count
  few-units : units_at st t < 2 ^ 42
  few-units =
      let f = audited_facts st o.audited in
      omega (arith, (units_agree st o.audited).as_shown t, sum_below (2 ^ 32) (rows_at st t) (rows_small st o.lendable t), rows_few st f t, f.limits.limit_high)

  adds-up : (out : List ℕ) → 8 * st.numbers.limit ≤ length out → AddsUp (table_of st t out) (units_at st t)
  unfolding table_of table_bytes
  adds-up out l =
      let T = rows_at st t in
      let R = st.numbers.limit in
      let none = table_accepted st out o.audited l in
      let sum : sum_in (put out 0 (table_bytes R T)) (length T) ≡ sum_of T =
      rw append_assoc (sum_in_rows T (zeros (8 * R - 8 * length T) ++ drop (0 + length (table_bytes R T)) out) (rows_small st o.lendable t)) in
      record {
        said = table_said st (answered_time st.numbers.last t);
        answered = table_answered st t out o.audited l;
        adds = rw (none, rows_as_asked st (audited_facts st o.audited) t) (sum ∙ sym ((units_agree st o.audited).as_shown t));
      }

  pub units_tell : UnitsTell st t (units_of st t)
  units_tell =
      let agree = units_agree st o.audited in
      record {
        said = units_at st t;
        answered = units-answered st o.audited t;
        as_logged = agree.left_over t;
        as_shown = adds-up;
        small = few-units;
      }

-- ---- between two times

pub difference_tells : (st : State) → InOrder st → (a b : ℕ) → DifferenceTells st a b (difference_of st a b)
unfolding difference
difference_tells st o a b =
    let first = units_at st a in
    let second = units_at st b in
    record {
      said = difference st a b;
      answered = difference-answered st o.audited a b;
      first = first;
      second = second;
      first_is = units-answered st o.audited a;
      second_is = units-answered st o.audited b;
      rose = less_rose second first;
      fell = less_fell second first;
      agree = less_none second first;
      small = (less_within second first (2 ^ 42) (few-units st o b) (few-units st o a)).1;
    }

-- ---- the theorem

pub units-told : UnitsTold
units-told s cs sf cf e =
    let o = stays_in_order s cs sf cf e in
    record { totals = units_tell (left s cs) o; differences = difference_tells (left s cs) o }
