-- The outset that an audited state uses for a table and a view (demand 3): it is a held table, the requests between are those reported,
-- fewer lie between no held table and the time, and on a tie it is the earlier. Assumes nothing.
use Prim.Native.Nat.{ℕ, ◌*◌, ◌≤◌}
use mathlib.Core.Path.{◌≡◌, refl, ap, ◌∙◌}
use mathlib.Core.List.{List, Memᴰ}
use lib.ListN.{length}
use Rattle.model.specs.declared.Held.{Held}
use Rattle.model.specs.declared.Chosen.{Chosen}
use Rattle.model.specs.Memory.{State}
use Rattle.model.specs.Outset.{held, files_held, current_table, measure, between, earlier_for, later_for, outset_for}
use Rattle.model.specs.Between.{requests_between}
use Rattle.model.specs.Queries.{answered_time, table_said, table_of, view_at, view_of}
use Rattle.model.specs.Audit.{Audited}
use Rattle.model.specs.Demands.{candidate, OutsetIsNearest, TableFromNearest, ViewIsNearest}
use Rattle.model.proofs.AuditLaws.{audited_facts}
use Rattle.model.proofs.ChoiceLaws.{Choice, choice}
use Rattle.model.proofs.BetweenLaws.{requests_rise, counts-between}
use Rattle.model.proofs.LateLaws.{answered_le, between_as_asked}
use Rattle.model.proofs.NearestLaws.{nearest, chosen-held, chosen-between, chosen_later}
use Rattle.claims.proofs.SecondDemands.{table_answered}
use Rattle.claims.proofs.Positions.{standing_accepted}

module _ (st : State) (t : ℕ) where
  -- the time answered
  abbrev at : ℕ
  at = answered_time st.numbers.last t

  -- the outset used is the candidate on the side answered
  pub outset_candidate : (outset_for st at).outset ≡ candidate st t (outset_for st at).side
  unfolding candidate
  outset_candidate = by (outset_for st at) (choice (measure st) at (earlier_for st at) (later_for st at))
    where
      by : (c : Chosen) → Choice (measure st) at (earlier_for st at) (later_for st at) c → c.outset ≡ candidate st t c.side
      by c (Choice.later h) = refl
      by c (Choice.earlier h) = refl

  pub outset_held : Memᴰ (outset_for st at).outset (held st)
  outset_held = chosen-held (measure st) (requests_rise st) at (current_table st) (files_held st) (answered_le st.numbers.last t)

  pub outset_nearest : (x : Held) → Memᴰ x (held st) → (outset_for st at).between ≤ between (measure st) at x
  outset_nearest = nearest (measure st) (requests_rise st) at (current_table st) (files_held st) (answered_le st.numbers.last t)

  pub outset_is_nearest : Audited st → OutsetIsNearest st t (outset_for st at).side (outset_for st at).between
  unfolding candidate
  outset_is_nearest ok =
      let early = earlier_for st at in
      let late = later_for st at in
      -- the requests between h and the time asked
      let asked : (h : Held) → between (measure st) at h ≡ requests_between st t h.time =
      λ h. counts-between st at h ∙ between_as_asked st (audited_facts st ok) t h in
      record {
        is_held = rw (← outset_candidate) outset_held;
        reported = rw (← outset_candidate) (chosen-between (measure st) at early late ∙ asked (outset_for st at).outset);
        nearest = λ c m. rw (← asked c) (outset_nearest c m);
        later_nearer = λ e. rw (← asked early) (chosen_later (measure st) at early late e);
      }

  pub table_from_nearest : (out : List ℕ) → Audited st → 8 * st.numbers.limit ≤ length out → TableFromNearest st t (table_of st t out)
  table_from_nearest out ok l = record { said = table_said st at; answered = table_answered st t out ok l; nearest = outset_is_nearest ok }

  pub view_answered : Audited st → view_of st t ≡ view_at st at
  unfolding view_of
  view_answered ok = rw (standing_accepted st ok)

  pub view_is_nearest : Audited st → ViewIsNearest st t (view_of st t)
  view_is_nearest ok =
      rw (view_answered ok)
      (record {
        said = _;
        answered = refl;
        nearest = outset_is_nearest ok;
        place_is = ap (λ (h : Held). h.place) outset_candidate;
        rows_are = ap (λ (h : Held). h.rows) outset_candidate;
        part_is = refl;
      })
