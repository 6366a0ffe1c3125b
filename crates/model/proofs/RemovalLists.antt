-- What a list of drops and marked deletions leaves (02, wish 9): the files that none of them lets go, closed up once, in every memory of
-- which question 1 is answered yes. Assumes nothing.
use Prim.Native.Nat.{ℕ}
use mathlib.Core.Path.{◌≡◌, refl, sym, ap, ◌∙◌}
use mathlib.Core.List.{List, [], ◌∷◌}
use mathlib.Core.Bool.{Bool, true, false, not, cond, ◌&&◌, ◌||◌}
use lib.Dec.{eqb}
use Rattle.model.specs.Answers.{first_no}
use Rattle.model.specs.Marks.{goes}
use Rattle.model.specs.Memory.{State, sound}
use Rattle.model.specs.Files.{File, files_of, is_kept, staying, reduced, not_of, drop_of, is_marked, drop_marked_of}
use Rattle.model.specs.Calls.{Call, step, run}
use Rattle.model.specs.Deletions.{IsDeletion, Each, lets_go, spared, DeletionsLeave}
use Rattle.model.proofs.RemovalLaws.{reduced-twice, reduced-none, reduced-sound}

-- ---- all stay

staying_all : (fs : List File) → staying (λ e. true) fs ≡ fs
unfolding staying
staying_all [] = refl
staying_all (f ∷ fs) = rw (staying_all fs)

-- without the files of a time that none has
staying-others : (t : ℕ) (fs : List File) → is_kept t fs ≡ false → staying (not_of t) fs ≡ fs
unfolding staying is_kept
staying-others t [] h = refl
staying-others t (f ∷ fs) h = by (eqb f.entry.time t) h (staying-others t fs)
  where
    by : (q : Bool) → (q || is_kept t fs) ≡ false → (is_kept t fs ≡ false → staying (not_of t) fs ≡ fs)
        → cond (not q) (f ∷ staying (not_of t) fs) (staying (not_of t) fs) ≡ f ∷ fs
    by false k rest = rw (rest k)
    by true k rest = cc

-- ---- one deletion, where question 1 is answered yes

module _ (st : State) (h : sound st ≡ true) where
  -- a removal of none
  pub all_stay : reduced (λ e. true) st ≡ st
  all_stay = reduced-none st h (λ e. true) (staying_all (files_of st))

  -- accepted or refused, it is a removal
  pub deletion_reduces : (c : Call) → IsDeletion c → step st c ≡ reduced (λ e. not (lets_go c e)) st
  unfolding step drop_of drop_marked_of lets_go first_no
  deletion_reduces c (IsDeletion.drops t) = by (is_kept t (files_of st)) refl
    where
      by : (q : Bool) → is_kept t (files_of st) ≡ q → (drop_of st t).state ≡ reduced (not_of t) st
      by true e = rw (h, e)
      by false e = rw (h, e) (sym (reduced-none st h (not_of t) (staying-others t (files_of st) e)))
  deletion_reduces c (IsDeletion.drops_marked k) = by (goes k) refl
    where
      by : (q : Bool) → goes k ≡ q → (drop_marked_of st k).state ≡ reduced (λ e. not (q && is_marked k e)) st
      by true e = rw (h, e)
      by false e = rw (h, e) (sym all_stay)

  deletion-sound : (c : Call) → IsDeletion c → sound (step st c) ≡ true
  deletion-sound c d = rw (deletion_reduces c d) (reduced-sound st h (λ e. not (lets_go c e)))

-- ---- a list of them

pub deletions_leave : DeletionsLeave
unfolding run Each spared
deletions_leave st [] h d = sym (all_stay st h)
deletions_leave st (c ∷ ds) h d =
    deletions_leave (step st c) ds (deletion-sound st h c d.0) d.1
    ∙ ap (reduced (spared ds)) (deletion_reduces st h c d.0)
    ∙ reduced-twice st h (λ e. not (lets_go c e)) (spared ds)
