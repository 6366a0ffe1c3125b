-- One number less another, signed: above, below and equal. Assumes nothing.
use Prim.Native.Nat.{ℕ, zero, suc, ◌-◌, ◌≤◌, ◌<◌}
use mathlib.Core.Path.{◌≡◌, refl, sym, ap, ◌∙◌}
use mathlib.Core.Logic.{◌↔◌}
use mathlib.Core.Bool.{Bool, true, false}
use native.Mathlib.Omega.{arith}
use lib.IntN.{pos, negsuc, neg_ℤ, nat_abs, ◌-ℤ◌}
use lib.Dec.{leb}
use lib.Signed.{mag}
use borrow.Author.Tests.{lt-ltb, le-ltb, leb-true, leb-false}

pub less_rose : (x y : ℕ) → y ≤ x → pos x -ℤ pos y ≡ pos (x - y)
less_rose x zero h = ap pos (omega arith)
less_rose x (suc k) h = rw (le-ltb x (suc k) h)

pub less_fell : (x y : ℕ) → x < y → pos x -ℤ pos y ≡ neg_ℤ (pos (y - x))
less_fell x zero h = absurd (omega arith)
less_fell x (suc k) h =
    let e : suc k - x ≡ suc (suc k - suc x) = omega arith in
    rw (lt-ltb x (suc k) h, e)

-- zero exactly where they agree
pub less_none : (x y : ℕ) → (pos x -ℤ pos y ≡ pos 0) ↔ (y ≡ x)
less_none x y = ((λ e. by e (leb y x) refl), λ e. less_rose x y (omega arith) ∙ ap pos (omega arith))
  where
    by : pos x -ℤ pos y ≡ pos 0 → (q : Bool) → leb y x ≡ q → y ≡ x
    by e true f =
        let h : y ≤ x = leb-true _ _ f in
        let g : pos (x - y) ≡ pos 0 = sym (less_rose x y h) ∙ e in
        let z : x - y ≡ 0 = cc in
        omega arith
    by e false f =
        let h : x < y = leb-false _ _ f in
        let k : y - x ≡ suc (y - suc x) = omega arith in
        let g : negsuc (y - suc x) ≡ pos 0 = sym (less_fell x y h ∙ ap (λ n. neg_ℤ (pos n)) k) ∙ e in
        let no : x ≡ y = cc in
        omega arith

-- it lies no further from 0 than the larger of the two
pub less_within : (x y b : ℕ) → x < b → y < b → (mag (pos x -ℤ pos y) < b) × (nat_abs (pos x -ℤ pos y) < b)
less_within x y b h g = by (leb y x) refl
  where
    by : (q : Bool) → leb y x ≡ q → (mag (pos x -ℤ pos y) < b) × (nat_abs (pos x -ℤ pos y) < b)
    by true f = rw (less_rose x y (leb-true _ _ f)) (omega arith, omega arith)
    by false f =
        let k : x < y = leb-false _ _ f in
        let e : y - x ≡ suc (y - suc x) = omega arith in
        rw (less_fell x y k, e) (omega arith, omega arith)
