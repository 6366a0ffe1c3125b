-- Laws of `leaves_of`: how many leaves k keys take. Assumes nothing.
use Prim.Native.Nat.{ℕ, zero, suc, ◌+◌, ◌-◌, ◌*◌, ◌/◌, ◌%◌, ◌≤◌, ◌<◌, zero-le}
use mathlib.Core.Path.{◌≡◌, sym, ap, ◌∙◌}
use native.Mathlib.Omega.{arith}
use native.Mathlib.Nat.{le-div_iff_mul-le, div-mul-le_self, lt-div-mul-add, div-le_of_le-mul, mul-le-mul_left, mod-lt, div-add-mod', div-eq_of_lt, zero-add}
use native.Mathlib.Numerals.{add-one}
use lib.Arith.{digits_div}
use Rattle.model.specs.Shape.{leaves_of}

module _ (d : ℕ) (two : 2 ≤ d) (q : ℕ) where
  -- k = q * (d - 1) + f keys
  pub leaves-full : leaves_of d (q * (d - 1)) ≡ q
  leaves-full = digits_div q {m = d - 1} {r = d - 2} (omega arith)

  pub leaves-part : (f : ℕ) → f < d - 1 → leaves_of d (q * (d - 1) + suc f) ≡ suc q
  leaves-part f h =
      let e : q * (d - 1) + suc f + (d - 2) ≡ suc q * (d - 1) + f = omega arith in
      rw e (digits_div (suc q) {m = d - 1} {r = f} h)

-- m is a leaf of k keys
pub leaf_there : (d k m : ℕ) → 2 ≤ d → m * (d - 1) < k → m < leaves_of d k
leaf_there d k m two h = (le-div_iff_mul-le {k = d - 1} {x = suc m} {y = k + (d - 2)} (omega arith)).1 (omega arith)

-- no key: no leaf
pub leaves_none : (d : ℕ) → 2 ≤ d → leaves_of d 0 ≡ 0
leaves_none d two = rw (zero-add, div-eq_of_lt {n = d - 2} {m = d - 1} (omega arith))

-- no more leaves than keys
pub leaves_le : (d k : ℕ) → 2 ≤ d → leaves_of d k ≤ k
leaves_le d zero two = rw (leaves_none d two) zero-le
leaves_le d (suc k) two =
    let e : d - 1 ≡ suc (d - 2) = omega arith in
    let p : 1 ≤ suc k = omega arith in
    rw e (div-le_of_le-mul (suc (d - 2)) (omega (arith, mul-le-mul_left (d - 2) p)))

-- k keys and one more take leaf k / (d - 1)
pub leaves_next : (d k : ℕ) → 2 ≤ d → leaves_of d (k + 1) ≡ k / (d - 1) + 1
leaves_next d k two =
    let w : k % (d - 1) < d - 1 = mod-lt k (omega arith) in
    let e : k + 1 ≡ k / (d - 1) * (d - 1) + suc (k % (d - 1)) = omega (arith, div-add-mod' k (d - 1)) in
    ap (leaves_of d) e ∙ leaves-part d two (k / (d - 1)) (k % (d - 1)) w ∙ sym (add-one (k / (d - 1)))

-- the last leaf has a key, and no key is past it
pub leaves-low : (d k : ℕ) → 2 ≤ d → leaves_of d k * (d - 1) < k + (d - 1)
leaves-low d k two = omega (arith, div-mul-le_self (k + (d - 2)) (d - 1))

pub leaves-high : (d k : ℕ) → 2 ≤ d → k ≤ leaves_of d k * (d - 1)
leaves-high d k two =
    let one : 0 < d - 1 = omega arith in
    omega (arith, lt-div-mul-add {a = k + (d - 2)} {b = d - 1} one)

-- more keys take no fewer leaves
pub leaves_mono : (d j k : ℕ) → 2 ≤ d → j ≤ k → leaves_of d j ≤ leaves_of d k
leaves_mono d j k two h = (le-div_iff_mul-le {k = d - 1} {x = leaves_of d j} {y = k + (d - 2)} (omega arith)).1 (omega (arith, div-mul-le_self (j + (d - 2)) (d - 1)))
