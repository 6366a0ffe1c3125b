-- What it means that lengths were answered. Assumes nothing.
use Prim.Native.Nat.{ℕ, ◌≤◌}
use mathlib.Core.Path.{◌≡◌, refl}
use mathlib.Core.List.{List, ◌++◌}
use mathlib.Core.Bool.{Bool, true, false}
use native.Mathlib.Omega.{arith}
use lib.Dec.{leb}
use borrow.Author.Tests.{leb-true}
use Rattle.model.specs.Answers.{Outcome, answers, refuses, Question, first_no}
use Rattle.model.specs.Settings.{order_in_range, page_size_in_range, row_limit_in_range, records_in_range, SettingsFit, settings_questions}
use Rattle.model.proofs.SettingsLaws.{settings_fit}
use Rattle.lending.specs.declared.Lengths.{Lengths}
use Rattle.lending.specs.Lengths.{lengths_for, lengths_of}

-- the numbers are within their limits, the settings stop no question behind theirs, and the lengths are those of the definition
pub record Answered (d N R n f : ℕ) (l : Lengths) : Type 0 where
  pub lengths_are : l ≡ lengths_for d N R n f
  pub settings : SettingsFit d N R
  pub go_on : (qs : List Question) → first_no (settings_questions d N R ++ qs) ≡ first_no qs
  pub records_few : n ≤ 65536
  pub files_few : f ≤ 16

pub answered : (d N R n f : ℕ) (l : Lengths) → lengths_of d N R n f ≡ answers l → Answered d N R n f l
unfolding lengths_of first_no records_in_range
answered d N R n f l e = by (order_in_range d) refl (page_size_in_range N) refl (row_limit_in_range R) refl (leb n 65536) refl (leb f 16) refl
  where
    same : answers (lengths_for d N R n f) ≡ answers l → l ≡ lengths_for d N R n f
    same h = cc

    refused : (k : ℕ) → ◌≡◌ {A = Outcome Lengths} (refuses k) (answers l) → ⊥
    refused k h = let z : ◌≡◌ {A = ℕ} 0 1 = cc in omega arith

    by : (o : Bool) → order_in_range d ≡ o → (p : Bool) → page_size_in_range N ≡ p → (r : Bool) → row_limit_in_range R ≡ r → (c : Bool) → leb n 65536 ≡ c
        → (k : Bool) → leb f 16 ≡ k → Answered d N R n f l
    by false eo p ep r er c ec k ek = absurd (refused 2 (rw eo at e))
    by true eo false ep r er c ec k ek = absurd (refused 3 (rw (eo, ep) at e))
    by true eo true ep false er c ec k ek = absurd (refused 4 (rw (eo, ep, er) at e))
    by true eo true ep true er false ec k ek = absurd (refused 5 (rw (eo, ep, er, ec) at e))
    by true eo true ep true er true ec false ek = absurd (refused 15 (rw (eo, ep, er, ec, ek) at e))
    by true eo true ep true er true ec true ek =
        record {
          lengths_are = same (rw (eo, ep, er, ec, ek) at e);
          settings = settings_fit d N R eo ep er;
          go_on = λ qs. rw (eo, ep, er);
          records_few = leb-true _ _ ec;
          files_few = leb-true _ _ ek;
        }
