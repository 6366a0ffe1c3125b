-- Laws of the form of a promise: what each outcome says of the questions, and frames. Assumes nothing.
use Prim.Native.Nat.{ℕ, zero, suc}
use mathlib.Core.Path.{◌≡◌, refl, sym, ap}
use mathlib.Core.List.{List, [], ◌∷◌, ◌++◌}
use mathlib.Core.Bool.{Bool, true, false, not, cond, false≢true}
use native.Mathlib.Omega.{arith}
use lib.Dec.{eqb}
use Rattle.model.specs.Answers.{answers, refuses, Question, question, asks, first_no, unless_no}
use Rattle.model.specs.Memory.{State, sound, standing}
use Rattle.model.specs.Promises.{refused_by, refused_number, FirstNoRefuses, refused_among, by_one_of, AppendAsked, Beyond}

-- ---- the questions

-- an append refused by k, one of its questions
pub asked_refused : {A : Type 0} (st : State) (questions : List Question) (k : ℕ) → eqb k 1 ≡ not (sound st) → asks k questions ≡ true
    → AppendAsked {A = A} st questions (refuses k)
unfolding refused_by refused_among first_no by_one_of
asked_refused st questions k q n = record { standing_first = rw q (by (sound st)); own = n }
  where
    by : (b : Bool) → ◌≡◌ {A = ℕ} (cond (not b) 1 0) (cond b 0 1)
    by true = refl
    by false = refl

pub asked_answered : {A : Type 0} (st : State) (questions : List Question) (x : A) → sound st ≡ true → AppendAsked st questions (answers x)
unfolding refused_by refused_among first_no by_one_of
asked_answered st questions x q = record { standing_first = rw q; own = refl }

-- a query refused by 1, answered, or refused by its own question behind the standing ones
pub unsound_refused : (A : Type 0) (st : State) (questions : List Question) → sound st ≡ false → FirstNoRefuses {A = A} (standing st ++ questions) (refuses 1)
unfolding refused_number first_no
unsound_refused A st questions q = rw q

pub next_refused : (A : Type 0) (st : State) (k : ℕ) (b : Bool) (questions : List Question) → sound st ≡ true → b ≡ false
    → FirstNoRefuses {A = A} (standing st ++ (question k b ∷ questions)) (refuses k)
unfolding refused_number first_no
next_refused A st k b questions q n = rw (q, n)

pub none_refused : {A : Type 0} (questions : List Question) (x : A) → first_no questions ≡ 0 → FirstNoRefuses questions (answers x)
unfolding refused_number
none_refused questions x e = sym e

-- questions that k is not among refuse by another number
pub not_first : (k : ℕ) → eqb 0 k ≡ false → (qs : List Question) → asks k qs ≡ false → eqb (first_no qs) k ≡ false
unfolding asks first_no
not_first k some [] e = some
not_first k some (q ∷ qs) e = by q.yes (eqb q.number k) refl (not_first k some qs)
  where
    by : (a b : Bool) → eqb q.number k ≡ b → (asks k qs ≡ false → eqb (first_no qs) k ≡ false) → eqb (cond a (first_no qs) q.number) k ≡ false
    by true false h ih = ih (rw h at e)
    by false false h ih = h
    by a true h ih = absurd (false≢true (sym (rw h at e)))

-- what a test says neither of the call done nor of its refusal, it does not say of the call
pub unless : {B : Type 0} (test : B → Bool) (k : ℕ) (done : B) (refused : ℕ → B) → test done ≡ false → test (refused k) ≡ false
    → test (unless_no k done refused) ≡ false
unless test zero done refused h g = h
unless test (suc k) done refused h g = g

-- what follows from a refusal where there is none: `is_refused (answers x)` computes to false
pub not_refused : {X : Type 0} → false ≡ true → X
not_refused e = let n : ◌≡◌ {A = ℕ} 0 1 = ap (λ (b : Bool). cond b 1 0) e in absurd (omega arith)

-- ---- frames

pub beyond_same : {A : Type 0} (k : ℕ) (xs : List A) → Beyond k xs xs
beyond_same k xs = record { same_length = refl; same_rest = refl }
