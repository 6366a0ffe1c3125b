-- Stores with the same catalogue and areas; insert, delete and update, which leave both as they were. Assumes nothing.
use Prim.Native.Nat.{ℕ}
use mathlib.Core.Path.{◌≡◌, refl, sym, ◌∙◌}
use mathlib.Core.List.{List}
use Rattle.model.specs.Answers.{first_no}
use Rattle.model.specs.Records.{Rec}
use Rattle.model.specs.Memory.{State}
use Rattle.model.specs.Changes.{insert_questions, present_questions, appended, insert_of, delete_of, update_of}
use Rattle.model.specs.Files.{files_of}
use Rattle.model.specs.Deletions.{SameFiles}
use Rattle.model.proofs.Leaving.{either_left}

pub files_alike : {x y : State} → SameFiles x y → files_of x ≡ files_of y
files_alike s = rw (s.same_limit, s.same_count, s.same_catalogue, s.same_areas)

pub same_files : (st : State) → SameFiles st st
same_files st = record { same_limit = refl; same_count = refl; same_catalogue = refl; same_areas = refl }

pub files_turned : {x y : State} → SameFiles x y → SameFiles y x
files_turned s = record { same_limit = sym s.same_limit; same_count = sym s.same_count; same_catalogue = sym s.same_catalogue; same_areas = sym s.same_areas }

pub files_through : {x y z : State} → SameFiles x y → SameFiles y z → SameFiles x z
files_through a b =
    record {
      same_limit = a.same_limit ∙ b.same_limit;
      same_count = a.same_count ∙ b.same_count;
      same_catalogue = a.same_catalogue ∙ b.same_catalogue;
      same_areas = a.same_areas ∙ b.same_areas;
    }

-- ---- requests

appended_untouched : (st : State) (t : ℕ) (new : List Rec) → SameFiles (appended st t new) st
unfolding appended
appended_untouched st t new = record { same_limit = refl; same_count = refl; same_catalogue = refl; same_areas = refl }

module _ (st : State) where
  pub insert_untouched : (t a c : ℕ) → SameFiles (insert_of st t a c).state st
  unfolding insert_of
  insert_untouched t a c = either_left (λ x. SameFiles x st) tt (first_no (insert_questions st t a)) st _ (same_files st) (λ q. appended_untouched st t _)

  pub delete_untouched : (t a : ℕ) → SameFiles (delete_of st t a).state st
  unfolding delete_of
  delete_untouched t a = either_left (λ x. SameFiles x st) tt (first_no (present_questions st t a 1)) st _ (same_files st) (λ q. appended_untouched st t _)

  pub update_untouched : (t a c : ℕ) → SameFiles (update_of st t a c).state st
  unfolding update_of
  update_untouched t a c = either_left (λ x. SameFiles x st) tt (first_no (present_questions st t a 2)) st _ (same_files st) (λ q. appended_untouched st t _)
