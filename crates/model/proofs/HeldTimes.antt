-- Of files in order, those that stay by a test are told by their times: where two tests leave the same times, they leave the same
-- files. Assumes nothing.
use Prim.Native.Nat.{ℕ, ◌≤◌}
use mathlib.Core.Path.{◌≡◌, refl, sym, ap, ◌∙◌}
use mathlib.Core.List.{List, [], ◌∷◌}
use mathlib.Core.Bool.{Bool, true, false, cond, ◌||◌, false≢true}
use native.Mathlib.Omega.{arith}
use lib.Dec.{eqb}
use borrow.Author.Tests.{eqb-true}
use Rattle.model.specs.declared.Entry.{Entry}
use Rattle.model.specs.Records.{Rec}
use Rattle.model.specs.Files.{File, is_kept, staying}
use Rattle.model.specs.Facts.{FilesAre}
use Rattle.model.proofs.Compare.{eqb_self, gt_eqb}

-- two lists of files, and one before them that stays by one test, by the other, by both or by neither
module _ (f : File) (ps qs : List File) (none : is_kept f.entry.time ps ≡ false) (none' : is_kept f.entry.time qs ≡ false) where
  abbrev u : ℕ
  u = f.entry.time

  -- of its own time the rest has none, of any other what it has with it
  behind : ((t : ℕ) → is_kept t (f ∷ ps) ≡ is_kept t (f ∷ qs)) → (t : ℕ) → is_kept t ps ≡ is_kept t qs
  unfolding is_kept
  behind each t = at (eqb u t) refl (each t)
    where
      at : (b : Bool) → eqb u t ≡ b → (b || is_kept t ps) ≡ (b || is_kept t qs) → is_kept t ps ≡ is_kept t qs
      at true e k = let is : u ≡ t = eqb-true u t e in rw (← is) (none ∙ sym none')
      at false e k = k

  first-told : (a b : Bool) → ((t : ℕ) → is_kept t (cond a (f ∷ ps) ps) ≡ is_kept t (cond b (f ∷ qs) qs))
      → (((t : ℕ) → is_kept t ps ≡ is_kept t qs) → ps ≡ qs) → cond a (f ∷ ps) ps ≡ cond b (f ∷ qs) qs
  unfolding is_kept
  first-told true true each rest = ap (λ (gs : List File). f ∷ gs) (rest (behind each))
  first-told true false each rest = absurd (false≢true (sym none' ∙ sym (each u) ∙ rw (eqb_self u)))
  first-told false true each rest = absurd (false≢true (sym none ∙ each u ∙ rw (eqb_self u)))
  first-told false false each rest = rest each

module _ (R last : ℕ) (rs : List Rec) where
  -- none of them is of the time before, or an earlier one
  none_before : (p : Entry → Bool) (t before : ℕ) (fs : List File) → t ≤ before → FilesAre R last rs before fs → is_kept t (staying p fs) ≡ false
  unfolding FilesAre is_kept staying
  none_before p t before [] l h = refl
  none_before p t before (f ∷ fs) l h = by (p f.entry) (none_before p t f.entry.time fs (omega (arith, h.0.later)) h.1)
    where
      by : (b : Bool) → is_kept t (staying p fs) ≡ false → is_kept t (cond b (f ∷ staying p fs) (staying p fs)) ≡ false
      by true k = rw (gt_eqb {a = f.entry.time} {b = t} (omega (arith, h.0.later)), k)
      by false k = k

  pub told_by_times : (p q : Entry → Bool) (before : ℕ) (fs : List File) → FilesAre R last rs before fs
      → ((t : ℕ) → is_kept t (staying p fs) ≡ is_kept t (staying q fs)) → staying p fs ≡ staying q fs
  unfolding FilesAre staying
  told_by_times p q before [] h same = refl
  told_by_times p q before (f ∷ fs) h same =
      let t = f.entry.time in
      first-told f (staying p fs) (staying q fs) (none_before p t t fs (omega arith) h.1) (none_before q t t fs (omega arith) h.1)
      (p f.entry) (q f.entry) same (told_by_times p q t fs h.1)
