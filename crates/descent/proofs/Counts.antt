-- Laws of `keys_up_to`: where the keys up to t end. Assumes nothing.
use Prim.Native.Nat.{ℕ, zero, suc, ◌≤◌, ◌<◌, zero-le, suc-le-suc}
use mathlib.Core.Path.{◌≡◌, refl, ap}
use mathlib.Core.List.{List, [], ◌∷◌}
use mathlib.Core.Bool.{Bool, true, false, cond}
use native.Mathlib.Omega.{arith}
use native.Mathlib.Nat.{le_of_suc-le-suc}
use lib.ListN.{length, get_or}
use lib.Dec.{leb}
use borrow.Author.Tests.{leb-true, leb-false}
use Rattle.model.specs.Tree.{keys_up_to}

-- c splits the keys into those at most t and those above
pub count_is : (keys : List ℕ) (t c : ℕ) → c ≤ length keys
    → ((i : ℕ) → i < c → get_or keys i 0 ≤ t) → ((i : ℕ) → c ≤ i → i < length keys → t < get_or keys i 0) → keys_up_to keys t ≡ c
unfolding keys_up_to
count_is [] t c h lo hi = omega arith
count_is (x ∷ xs) t zero h lo hi =
    by-test (leb x t) refl (count_is xs t zero zero-le (λ i l. omega arith) (λ i l k. hi (suc i) zero-le (suc-le-suc k)))
  where
    by-test : (b : Bool) → leb x t ≡ b → keys_up_to xs t ≡ 0 → cond b (suc (keys_up_to xs t)) (keys_up_to xs t) ≡ 0
    by-test true e n = absurd (omega (arith, leb-true x t e, hi 0 zero-le (omega arith)))
    by-test false e n = n
count_is (x ∷ xs) t (suc c) h lo hi =
    by-test (leb x t) refl
    (count_is xs t c (le_of_suc-le-suc h) (λ i l. lo (suc i) (suc-le-suc l)) (λ i l k. hi (suc i) (suc-le-suc l) (suc-le-suc k)))
  where
    by-test : (b : Bool) → leb x t ≡ b → keys_up_to xs t ≡ c → cond b (suc (keys_up_to xs t)) (keys_up_to xs t) ≡ suc c
    by-test true e n = ap suc n
    by-test false e n = absurd (omega (arith, leb-false x t e, lo 0 (omega arith)))

pub count_none : (keys : List ℕ) (t : ℕ) → length keys ≡ 0 → keys_up_to keys t ≡ 0
count_none keys t e = count_is keys t 0 zero-le (λ i l. absurd (omega arith)) (λ i l k. absurd (omega arith))
