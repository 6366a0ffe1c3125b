-- Laws of `same`: it is true of equal lists and of no others. Assumes nothing.
use Prim.Native.Nat.{ℕ}
use mathlib.Core.Path.{◌≡◌, refl, sym, ap, ◌∙◌}
use mathlib.Core.Bool.{Bool, true, false, ◌&&◌, false≢true}
use mathlib.Core.List.{List, [], ◌∷◌}
use lib.Dec.{eqb}
use lib.Pointwise.{pointwise, bytes_decides}
use Rattle.codec.specs.Parts.{same}

-- as the library's `==` of slices says it
pub pointwise_same : (xs ys : List ℕ) → pointwise eqb xs ys ≡ same xs ys
unfolding same
pointwise_same [] [] = refl
pointwise_same [] (y ∷ ys) = refl
pointwise_same (x ∷ xs) [] = refl
pointwise_same (x ∷ xs) (y ∷ ys) = ap (λ (b : Bool). eqb x y && b) (pointwise_same xs ys)

pub same_true : (xs ys : List ℕ) → same xs ys ≡ true → xs ≡ ys
same_true xs ys e = (bytes_decides xs ys).0 (pointwise_same xs ys ∙ e)

pub same_of_equal : (xs ys : List ℕ) → xs ≡ ys → same xs ys ≡ true
same_of_equal xs ys e = sym (pointwise_same xs ys) ∙ (bytes_decides xs ys).1 e

pub same_false : (xs ys : List ℕ) → same xs ys ≡ false → xs ≡ ys → ⊥
same_false xs ys e q = false≢true (sym e ∙ same_of_equal xs ys q)

pub same_of_unequal : (xs ys : List ℕ) → (xs ≡ ys → ⊥) → same xs ys ≡ false
same_of_unequal xs ys h = by-test (same xs ys) refl
  where
    by-test : (b : Bool) → same xs ys ≡ b → same xs ys ≡ false
    by-test true e = absurd (h (same_true xs ys e))
    by-test false e = e
