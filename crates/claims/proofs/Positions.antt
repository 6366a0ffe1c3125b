-- Positions (02, wish 5): after every list of calls from an accepted start each time is given a page and a count that are tied to
-- the log's records. Assumes nothing.
use Prim.Native.Nat.{ℕ}
use mathlib.Core.Path.{◌≡◌}
use mathlib.Core.List.{[]}
use Rattle.model.specs.Answers.{answers, first_no}
use Rattle.model.specs.Memory.{State, sound, standing}
use Rattle.model.specs.Positions.{position_at}
use Rattle.model.specs.Queries.{answered_time, position_of}
use Rattle.model.specs.Audit.{Audited}
use Rattle.model.specs.Demands.{left, PositionTells, PositionsTell}
use Rattle.model.proofs.AuditLaws.{audited_facts, audited_sound}
use Rattle.model.proofs.LateLaws.{position_as_asked}
use Rattle.claims.proofs.Regions.{answered, none-asked}
use Rattle.claims.proofs.Lists.{stays_in_order}

-- no standing question is answered no
pub standing_accepted : (st : State) → Audited st → first_no (standing st) ≡ 0
standing_accepted st a = answered 0 (sound st) [] (audited_sound st a) none-asked

module _ (st : State) (a : Audited st) (t : ℕ) where
  position-answered : position_of st t ≡ answers (position_at st (answered_time st.numbers.last t))
  unfolding position_of
  position-answered = rw (standing_accepted st a)

  pub position_tells : PositionTells st t (position_of st t)
  position_tells =
      record {
        said = position_at st (answered_time st.numbers.last t);
        answered = position-answered;
        tied = position_as_asked st (audited_facts st a) t;
      }

pub positions_tell : PositionsTell
positions_tell s cs sf cf e t = position_tells (left s cs) (stays_in_order s cs sf cf e).audited t
