-- How often d divides m, and what is left: the laws of `valuation` and `cofactor` without their fuel. Assumes
-- nothing.
use Prim.Native.Nat.{ℕ, zero, suc, ◌*◌, ◌/◌, ◌%◌, ◌^◌, ◌≤◌, ◌<◌, zero-le, suc-le-suc}
use mathlib.Core.Path.{◌≡◌, refl, sym, ap, ◌∙◌, subst}
use mathlib.Core.Bool.{Bool, true, false, cond}
use native.Mathlib.Omega.{arith}
use native.Mathlib.Nat.{zero-mod, div-lt_self, div-add-mod', mul-mod_left, mul-div_cancel, mul-le-mul_left, pow-zero, pow-suc, mul-one, mul_assoc, one-le-pow, zero-mul}
use lib.Dec.{eqb}
use borrow.Author.Tests.{eqb-true, eqb-false, ne_eqb}
use Rattle.model.specs.Shape.{valuation_up_to, cofactor_up_to, valuation, cofactor}

-- what is divided without a cofactor is smaller, and not nothing
module _ (d m : ℕ) (two : 2 ≤ d) (pos : 0 < m) where
  pub div_less : m / d < m
  div_less = div-lt_self pos two

  pub div_pos : m % d ≡ 0 → 0 < m / d
  div_pos e = by (m / d) refl
    where
      by : (x : ℕ) → m / d ≡ x → 0 < x
      by zero q = absurd (omega (arith, div-add-mod' m d, rw q at (div-add-mod' m d), zero-mul d))
      by (suc x) q = suc-le-suc zero-le

module _ (d : ℕ) (two : 2 ≤ d) where
  -- more fuel than m changes nothing
  valuation-fuel : (f g m : ℕ) → 0 < m → m ≤ f → m ≤ g → valuation_up_to d f m ≡ valuation_up_to d g m
  unfolding valuation_up_to
  valuation-fuel zero g m p a b = absurd (omega arith)
  valuation-fuel (suc f) zero m p a b = absurd (omega arith)
  valuation-fuel (suc f) (suc g) m p a b = by-test (eqb (m % d) 0) refl (valuation-fuel f g (m / d))
    where
      by-test : (c : Bool) → eqb (m % d) 0 ≡ c → (0 < m / d → m / d ≤ f → m / d ≤ g → valuation_up_to d f (m / d) ≡ valuation_up_to d g (m / d))
          → cond c (suc (valuation_up_to d f (m / d))) 0 ≡ cond c (suc (valuation_up_to d g (m / d))) 0
      by-test true e ih = ap suc (ih (div_pos d m two p (eqb-true _ _ e)) (omega (arith, div_less d m two p)) (omega (arith, div_less d m two p)))
      by-test false e ih = refl

  cofactor-fuel : (f g m : ℕ) → 0 < m → m ≤ f → m ≤ g → cofactor_up_to d f m ≡ cofactor_up_to d g m
  unfolding cofactor_up_to
  cofactor-fuel zero g m p a b = absurd (omega arith)
  cofactor-fuel (suc f) zero m p a b = absurd (omega arith)
  cofactor-fuel (suc f) (suc g) m p a b = by-test (eqb (m % d) 0) refl (cofactor-fuel f g (m / d))
    where
      by-test : (c : Bool) → eqb (m % d) 0 ≡ c → (0 < m / d → m / d ≤ f → m / d ≤ g → cofactor_up_to d f (m / d) ≡ cofactor_up_to d g (m / d))
          → cond c (cofactor_up_to d f (m / d)) m ≡ cond c (cofactor_up_to d g (m / d)) m
      by-test true e ih = ih (div_pos d m two p (eqb-true _ _ e)) (omega (arith, div_less d m two p)) (omega (arith, div_less d m two p))
      by-test false e ih = refl

  -- m that d does not divide
  pub valuation-none : (m : ℕ) → (m % d ≡ 0 → ⊥) → valuation d m ≡ 0
  unfolding valuation valuation_up_to
  valuation-none zero h = refl
  valuation-none (suc m) h = rw (ne_eqb (suc m % d) 0 h)

  pub cofactor-none : (m : ℕ) → (m % d ≡ 0 → ⊥) → cofactor d m ≡ m
  unfolding cofactor cofactor_up_to
  cofactor-none zero h = refl
  cofactor-none (suc m) h = rw (ne_eqb (suc m % d) 0 h)

  -- m that d divides
  grows : (x : ℕ) → 0 < x → x < x * d
  grows x p = omega (arith, mul-le-mul_left x two)

  pub valuation_mul : (x : ℕ) → 0 < x → valuation d (x * d) ≡ suc (valuation d x)
  unfolding valuation valuation_up_to
  valuation_mul x p = go (x * d) refl
    where
      go : (n : ℕ) → x * d ≡ n → valuation_up_to d n (x * d) ≡ suc (valuation_up_to d x x)
      go zero e = absurd (omega (arith, grows x p))
      go (suc n) e = rw (mul-mod_left, mul-div_cancel x {n = d} (omega arith)) (ap suc (valuation-fuel n x x p (omega (arith, grows x p)) (omega arith)))

  pub cofactor_mul : (x : ℕ) → 0 < x → cofactor d (x * d) ≡ cofactor d x
  unfolding cofactor cofactor_up_to
  cofactor_mul x p = go (x * d) refl
    where
      go : (n : ℕ) → x * d ≡ n → cofactor_up_to d n (x * d) ≡ cofactor_up_to d x x
      go zero e = absurd (omega (arith, grows x p))
      go (suc n) e = rw (mul-mod_left, mul-div_cancel x {n = d} (omega arith)) (cofactor-fuel n x x p (omega (arith, grows x p)) (omega arith))

  -- induction on how often d divides m
  pub by_digits : (P : ℕ → Type 0) → ((m : ℕ) → (m % d ≡ 0 → ⊥) → P m) → ((x : ℕ) → 0 < x → P x → P (x * d)) → (m : ℕ) → 0 < m → P m
  by_digits P base more m p = go m m p (omega arith)
    where
      go : (f m : ℕ) → 0 < m → m ≤ f → P m
      go zero m p a = absurd (omega arith)
      go (suc f) m p a = by-test (eqb (m % d) 0) refl (go f (m / d))
        where
          by-test : (c : Bool) → eqb (m % d) 0 ≡ c → (0 < m / d → m / d ≤ f → P (m / d)) → P m
          by-test true e ih =
              let z = eqb-true (m % d) 0 e in
              subst P (omega (arith, div-add-mod' m d)) (more (m / d) (div_pos d m two p z) (ih (div_pos d m two p z) (omega (arith, div_less d m two p))))
          by-test false e ih = base m (eqb-false _ _ e)

  -- m is what is left, as often multiplied by d
  pub restored : (m : ℕ) → 0 < m → cofactor d m * d ^ valuation d m ≡ m
  restored = by_digits (λ (m : ℕ). cofactor d m * d ^ valuation d m ≡ m)
      (λ m h. rw (valuation-none m h, cofactor-none m h, pow-zero) (mul-one m))
      (λ x p ih. rw (valuation_mul x p, cofactor_mul x p, pow-suc, ← mul_assoc, ih))

  pub cofactor_odd : (m : ℕ) → 0 < m → cofactor d m % d ≡ 0 → ⊥
  cofactor_odd = by_digits (λ (m : ℕ). cofactor d m % d ≡ 0 → ⊥) (λ m h. rw (cofactor-none m h) h) (λ x p ih. rw (cofactor_mul x p) ih)

  pos-odd : (x : ℕ) → (x % d ≡ 0 → ⊥) → 0 < x
  pos-odd zero h = absurd (h (zero-mod d))
  pos-odd (suc x) h = suc-le-suc zero-le

  pow_pos : (l : ℕ) → 0 < d ^ l
  pow_pos l = one-le-pow l d (omega arith)

  -- and the other way round
  pub valuation_pow : (x : ℕ) → (x % d ≡ 0 → ⊥) → (l : ℕ) → valuation d (x * d ^ l) ≡ l
  valuation_pow x h zero = rw (pow-zero, mul-one) (valuation-none x h)
  valuation_pow x h (suc l) =
      rw (pow-suc, ← mul_assoc) (valuation_mul (x * d ^ l) (omega (arith, mul-le-mul_left x (pow_pos l), pos-odd x h)) ∙ ap suc (valuation_pow x h l))

  pub cofactor_pow : (x : ℕ) → (x % d ≡ 0 → ⊥) → (l : ℕ) → cofactor d (x * d ^ l) ≡ x
  cofactor_pow x h zero = rw (pow-zero, mul-one) (cofactor-none x h)
  cofactor_pow x h (suc l) =
      rw (pow-suc, ← mul_assoc) (cofactor_mul (x * d ^ l) (omega (arith, mul-le-mul_left x (pow_pos l), pos-odd x h)) ∙ cofactor_pow x h l)

  -- one division
  pub valuation_div : (m : ℕ) → 0 < m → m % d ≡ 0 → valuation d m ≡ suc (valuation d (m / d))
  valuation_div m p z =
      let e : m / d * d ≡ m = omega (arith, div-add-mod' m d) in
      ap (valuation d) (sym e) ∙ valuation_mul (m / d) (div_pos d m two p z)

  pub cofactor_div : (m : ℕ) → 0 < m → m % d ≡ 0 → cofactor d m ≡ cofactor d (m / d)
  cofactor_div m p z =
      let e : m / d * d ≡ m = omega (arith, div-add-mod' m d) in
      ap (cofactor d) (sym e) ∙ cofactor_mul (m / d) (div_pos d m two p z)
