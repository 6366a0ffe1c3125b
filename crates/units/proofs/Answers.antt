-- The promises of the two calls, from the answers to the questions and what the code says on any memory: one law for each
-- return. Assumes nothing.
use Prim.Native.Nat.{ℕ}
use mathlib.Core.Path.{◌≡◌}
use mathlib.Core.List.{[]}
use mathlib.Core.Bool.{true, false}
use lib.IntN.{ℤ, pos, ◌-ℤ◌}
use Rattle.model.specs.Answers.{refuses, answers, first_no}
use Rattle.model.specs.Memory.{State, sound, standing}
use Rattle.model.specs.Queries.{answered_time}
use Rattle.model.specs.Units.{difference, units_of, difference_of}
use Rattle.model.specs.Promises.{UnitsPromise, DifferencePromise}
use Rattle.model.proofs.PromiseLaws.{unsound_refused, none_refused}
use Rattle.catalogue.specs.declared.Candidates.{Candidates}
use Rattle.catalogue.specs.Candidates.{candidates_in}
use Rattle.tables.proofs.Answers.{candidates_at}
use Rattle.units.specs.Totals.{TotalIs}

-- the total worked out for t on this store
abbrev Total : State → Candidates → (t r : ℕ) → Type 0
Total st c t r = TotalIs st.numbers st.memory.log st.memory.index st.memory.table st.memory.areas c t r

module _ (st : State) (t : ℕ) where
  pub units-header : sound st ≡ false → UnitsPromise st t (refuses 1)
  unfolding units_of first_no
  units-header q = record { asked = unsound_refused ℕ st [] q; audited = λ a. rw q }

  pub units_answers : (c : Candidates) (at r : ℕ) → sound st ≡ true → at ≡ answered_time st.numbers.last t → c ≡ candidates_in st.numbers t st.memory.catalogue
      → Total st c at r → UnitsPromise st t (answers r)
  unfolding units_of first_no
  units_answers c at r q e has is =
      record { asked = none_refused (standing st) r (rw q); audited = λ a. rw (← e, q, is.on st.memory.catalogue (candidates_at st t c at e has) a) }

module _ (st : State) (a b : ℕ) where
  pub difference-header : sound st ≡ false → DifferencePromise st a b (refuses 1)
  unfolding difference_of first_no
  difference-header q = record { asked = unsound_refused ℤ st [] q; audited = λ ok. rw q }

  pub difference_answers : (first second : Candidates) (from to before after : ℕ) (less : ℤ) → sound st ≡ true → from ≡ answered_time st.numbers.last a → to ≡ answered_time st.numbers.last b
      → first ≡ candidates_in st.numbers a st.memory.catalogue → second ≡ candidates_in st.numbers b st.memory.catalogue
      → Total st first from before → Total st second to after → less ≡ pos after -ℤ pos before → DifferencePromise st a b (answers less)
  unfolding difference_of difference first_no
  difference_answers first second from to before after less q e f has_first has-second one two is =
      record {
        asked = none_refused (standing st) less (rw q);
        audited = λ ok.
            rw (← e, ← f, q, is, one.on st.memory.catalogue (candidates_at st a first from e has_first) ok, two.on st.memory.catalogue (candidates_at st b second to f has-second) ok);
      }
