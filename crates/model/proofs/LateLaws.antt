-- A time after the last request (02, wish 2): the time answered; up to the last request the queries answer what they did before,
-- later times as the last. And where the audit passes the memory, no record lies between the time answered and the time asked,
-- so what the log says of the one it says of the other. Assumes nothing.
use Prim.Native.Nat.{ℕ, ◌≤◌, ◌<◌}
use mathlib.Core.Path.{◌≡◌, refl, sym, ap, ◌∙◌}
use mathlib.Core.Bool.{Bool, true, false, not, ◌||◌}
use native.Mathlib.Omega.{arith}
use lib.ListN.{length, take}
use lib.Dec.{leb, eqb}
use borrow.Author.Tests.{le-leb, leb-true, leb-false, eqb-true, eq-eqb}
use Rattle.codec.specs.Parts.{same}
use Rattle.model.specs.declared.Held.{Held}
use Rattle.model.specs.Answers.{first_no}
use Rattle.model.specs.Records.{header_bytes}
use Rattle.model.specs.Timeslice.{table, up_to, timeslice}
use Rattle.model.specs.Pages.{records_up_to}
use Rattle.model.specs.Memory.{State, log_of, sound, is_header}
use Rattle.model.specs.Positions.{position_at, PageAndCount}
use Rattle.model.specs.Outset.{apart}
use Rattle.model.specs.Between.{requests_between}
use Rattle.model.specs.Queries.{answered_time, rows_at, position_of, table_of, view_of, net_of}
use Rattle.model.specs.Units.{units_at, units_of, difference_of}
use Rattle.model.specs.Facts.{AuditedFacts}
use Rattle.model.specs.LateTimes.{AsBefore, AsTheLast, AsTimeZero, EveryTimeAnswered}
use Rattle.model.proofs.Compare.{and_left}
use Rattle.model.proofs.UpToLaws.{up_to_all}
use Rattle.model.proofs.AuditLaws.{limits_of_sound}
use Rattle.model.proofs.TimeLaws.{time_last}
use Rattle.model.proofs.PositionLaws.{page_tied_to_count}
use Rattle.model.proofs.BetweenLaws.{counts-between}

-- ---- the time answered

module _ (last t : ℕ) where
  pub answered_held : t ≤ last → answered_time last t ≡ t
  unfolding answered_time
  answered_held h = omega arith

  pub answered_late : last ≤ t → answered_time last t ≡ last
  unfolding answered_time
  answered_late h = omega arith

  pub answered_le : answered_time last t ≤ last
  unfolding answered_time
  answered_le = omega arith

  pub answered_asked : answered_time last t ≤ t
  unfolding answered_time
  answered_asked = omega arith

  -- a time up to the last and up to t is up to the time answered
  pub held_by_answered : (u : ℕ) → u ≤ last → u ≤ t → u ≤ answered_time last t
  unfolding answered_time
  held_by_answered u h g = omega arith

pub answered_last : (last : ℕ) → answered_time last last ≡ last
answered_last last = answered_held last last (omega arith)

-- ---- as before, and as the last

module _ (st : State) where
  pub as_before : AsBefore st
  unfolding position_of table_of view_of net_of units_of difference_of first_no
  as_before =
      let last = st.numbers.last in
      record {
        position = λ t h. rw (answered_held last t h, le-leb t last h);
        table = λ t out h. rw (answered_held last t h, le-leb t last h);
        view = λ t h. rw (answered_held last t h, le-leb t last h);
        change_between = λ a b out work h g. rw (answered_held last a h, answered_held last b g, le-leb a last h, le-leb b last g);
        units = λ t h. rw (answered_held last t h, le-leb t last h);
        difference = λ a b h g. rw (answered_held last a h, answered_held last b g, le-leb a last h, le-leb b last g);
      }

  pub as_the_last : AsTheLast st
  unfolding position_of table_of view_of net_of units_of difference_of
  as_the_last =
      let last = st.numbers.last in
      let one : (t : ℕ) → last < t → answered_time last t ≡ answered_time last last = λ t h. answered_late last t (omega arith) ∙ sym (answered_last last) in
      record {
        position = λ t h. rw (one t h);
        table = λ t out h. rw (one t h);
        view = λ t h. rw (one t h);
        net_change_from = λ a b out work h. rw (one a h);
        net_change_to = λ a b out work h. rw (one b h);
        units = λ t h. rw (one t h);
        difference_from = λ a b h. rw (one a h);
        difference_to = λ a b h. rw (one b h);
      }

  -- by question 1: no header has a last time and no record
  last_none : sound st ≡ true → st.numbers.records ≡ 0 → st.numbers.last ≡ 0
  unfolding is_header
  last_none q e =
      let s = st.numbers in
      let none : Bool = not (eqb s.records 0) || eqb s.last 0 in
      let h = and_left none (same (take 24 st.memory.log) (header_bytes s)) (limits_of_sound st q).1 in
      eqb-true _ _ (rw (eq-eqb _ _ e) at h)

  -- a store that question 1 refuses answers 1 to both
  pub as_time_zero : st.numbers.records ≡ 0 → AsTimeZero st
  unfolding position_of table_of view_of net_of units_of difference_of first_no
  as_time_zero e = by (sound st) refl
    where
      by : (q : Bool) → sound st ≡ q → AsTimeZero st
      by true q =
          let last = st.numbers.last in
          let none = last_none q e in
          let zero : (t : ℕ) → answered_time last t ≡ answered_time last 0 =
          λ t. answered_late last t (omega arith) ∙ sym (answered_late last 0 (omega arith)) in
          record {
            position = λ t. rw (zero t);
            table = λ t out. rw (zero t);
            view = λ t. rw (zero t);
            change_between = λ a b out work. rw (zero a, zero b);
            units = λ t. rw (zero t);
            difference = λ a b. rw (zero a, zero b);
          }
      by false q =
          record {
            position = λ t. rw q;
            table = λ t out. rw q;
            view = λ t. rw q;
            change_between = λ a b out work. rw q;
            units = λ t. rw q;
            difference = λ a b. rw q;
          }

pub every_time_answered : EveryTimeAnswered
every_time_answered st = (as_before st, (as_the_last st, as_time_zero st))

-- ---- where the audit passes the memory

module _ (st : State) (f : AuditedFacts st) (t : ℕ) where
  pub up_to_as_asked : up_to (answered_time st.numbers.last t) (log_of st) ≡ up_to t (log_of st)
  up_to_as_asked = by (leb t st.numbers.last) refl
    where
      all : (u : ℕ) → st.numbers.last ≤ u → up_to u (log_of st) ≡ log_of st
      all u h = up_to_all u (log_of st) (λ i l. omega (arith, time_last st.numbers.limit (log_of st) f.log_legal i l, f.last_is))

      by : (q : Bool) → leb t st.numbers.last ≡ q → up_to (answered_time st.numbers.last t) (log_of st) ≡ up_to t (log_of st)
      by true e = rw (answered_held st.numbers.last t (leb-true _ _ e))
      by false e =
          let late : st.numbers.last < t = leb-false _ _ e in
          rw (answered_late st.numbers.last t (omega arith)) (all st.numbers.last (omega arith) ∙ sym (all t (omega arith)))

  pub rows_as_asked : rows_at st (answered_time st.numbers.last t) ≡ rows_at st t
  unfolding timeslice
  rows_as_asked = ap table up_to_as_asked

  pub units_as_asked : units_at st (answered_time st.numbers.last t) ≡ units_at st t
  unfolding units_at
  units_as_asked = rw up_to_as_asked

  pub requests_as_asked : records_up_to (answered_time st.numbers.last t) (log_of st) ≡ records_up_to t (log_of st)
  requests_as_asked = ap length up_to_as_asked

  -- "requests between", from either
  pub between_as_asked : (h : Held) → requests_between st (answered_time st.numbers.last t) h.time ≡ requests_between st t h.time
  between_as_asked h =
      sym (counts-between st (answered_time st.numbers.last t) h) ∙ ap (λ (k : ℕ). apart k (records_up_to h.time (log_of st))) requests_as_asked ∙ counts-between st t h

  -- page and count of the one are those of the other
  pub position_as_asked : PageAndCount st.numbers.page (log_of st) t (position_at st (answered_time st.numbers.last t))
  position_as_asked =
      let last = st.numbers.last in
      let p = page_tied_to_count st.numbers.page st.numbers.limit (log_of st) (answered_time last t) f.limits.page_low f.log_legal in
      record {
        within = p.within;
        counted = λ i l. (
          (λ h. omega (arith, (p.counted i l).0 h, answered_asked last t)),
          λ h. (p.counted i l).1 (held_by_answered last t _ (omega (arith, time_last st.numbers.limit (log_of st) f.log_legal i l, f.last_is)) h),
        );
        on_page = p.on_page;
        page_zero = p.page_zero;
      }
