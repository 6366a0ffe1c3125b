-- The words of a promise, computed: by which number a call was refused, by one of which questions, and what is said of an answer
-- alone. Assumes nothing.
use Prim.Native.Nat.{ℕ, ◌≤◌}
use mathlib.Core.Path.{◌≡◌, refl}
use mathlib.Core.List.{[], ◌∷◌, map}
use mathlib.Core.Bool.{true, false}
use native.Mathlib.Omega.{arith}
use Rattle.model.specs.Answers.{Outcome, answers, refuses, refuses_at, question, asks}
use Rattle.model.specs.Promises.{refused_number, by_one_of, IfAnswered}

pub refused_numbers : map (λ (o : Outcome ℕ). refused_number o) (answers 3 ∷ refuses 13 ∷ refuses_at 17 4 ∷ []) ≡ 0 ∷ 13 ∷ 17 ∷ []
unfolding refused_number
refused_numbers = refl

-- however the questions are answered; a number that comes with a record number is none of them
pub by_one_of_lem : map (λ (o : Outcome ℕ). by_one_of (question 1 true ∷ question 13 false ∷ []) o) (answers 3 ∷ refuses 1 ∷ refuses 13 ∷ refuses 12 ∷ refuses_at 13 4 ∷ [])
    ≡ true ∷ true ∷ true ∷ false ∷ false ∷ []
unfolding by_one_of asks
by_one_of_lem = refl

pub too_many : IfAnswered (λ (n : ℕ). n ≤ 4) (answers 5) → ⊥
unfolding IfAnswered
too_many h = omega (arith, h)

pub none_answered : IfAnswered (λ (n : ℕ). n ≤ 4) (refuses 5)
unfolding IfAnswered
none_answered = tt
