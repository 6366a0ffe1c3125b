-- A call that may change the store leaves it as it was, or as the call makes it where no question is answered no. Assumes
-- nothing.
use Prim.Native.Nat.{ℕ, zero, suc}
use mathlib.Core.Path.{◌≡◌, refl}
use Rattle.model.specs.Answers.{answers, unless_no}
use Rattle.model.specs.Memory.{State}
use Rattle.model.specs.Starts.{after}
use Rattle.model.specs.Changes.{unchanged}

-- what holds of the state that stood, and of the new one where no question is answered no, holds of the one left
pub either_left : {A : Type 0} (P : State → Type 0) (x : A) (q : ℕ) (st done : State) → P st → (q ≡ 0 → P done)
    → P (unless_no q (after (answers x) done) (unchanged st)).state
either_left P x zero st done stood new = new refl
either_left P x (suc q) st done stood new = stood
