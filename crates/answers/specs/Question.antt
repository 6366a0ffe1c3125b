-- The numbers of a refusal: that of the question answered no, and the record number that comes with 17. Assumes nothing.
use Rattle.std.specs.Prelude.{ℕ}
use Rattle.model.specs.declared.Refusal.{Refusal}
use Rattle.model.specs.Answers.{Outcome, answers, refuses, refuses_at, refusal}
use Rattle.model.specs.Promises.{refused_number}

-- the record number, 0 if there is none
unfoldable pub record_in : {A : Type 0} → Outcome A → ℕ
record_in (answers x) = 0
record_in (refuses k) = 0
record_in (refuses_at k r) = r

-- both of a refusal
abbrev pub number_of : Refusal → ℕ
number_of why = refused_number {A = Unit} (refusal why)

abbrev pub record_of : Refusal → ℕ
record_of why = record_in {A = Unit} (refusal why)
