-- Which node takes which separator: the node that leaf (b * d + 1) * d ^ l opened takes that of leaf
-- (b * d + suc i) * d ^ l, i < d - 1. No node numbers. Assumes nothing.
use Prim.Native.Nat.{ℕ, zero, suc, ◌+◌, ◌-◌, ◌*◌, ◌/◌, ◌%◌, ◌^◌, ◌≤◌, ◌<◌, zero-le, suc-le-suc}
use mathlib.Core.Path.{◌≡◌, refl, sym, ap, ◌∙◌}
use mathlib.Core.Logic.{⊎_elim}
use mathlib.Core.Bool.{Bool, true, false, cond, ◌&&◌}
use native.Mathlib.Omega.{arith}
use native.Mathlib.Nat.{le_refl, mul-le-mul_right, lt_of_mul-lt-mul_right, le_of_mul-le-mul_right, one-le-pow, div-add-mod', mod-lt, zero-mod}
use lib.Arith.{digits_mod}
use lib.Dec.{eqb}
use borrow.Author.Tests.{eqb-true, eq-eqb}
use Rattle.model.specs.Shape.{valuation, cofactor, cofactor_up_to, opens, last_opened, host}
use Rattle.model.proofs.Compare.{and_left, and_right}
use Rattle.tree.proofs.Orders.{le_or_lt}
use Rattle.tree.proofs.Valuations.{valuation_pow, cofactor_pow, restored, cofactor_odd}

-- the leaf that opened block b of level 1 + l
abbrev pub start : ℕ → ℕ → ℕ → ℕ
start d l b = (b * d + 1) * d ^ l

cond_le : (c : Bool) {x y n : ℕ} → x ≤ n → y ≤ n → cond c x y ≤ n
cond_le true p q = p
cond_le false p q = q

module _ (d : ℕ) (two : 2 ≤ d) where
  -- the leaf x opened a node of level 1 + v, and none after it below n did
  last-opened-is : (v x : ℕ) → valuation d x ≡ v → opens d x ≡ true → (n : ℕ) → x < n
      → ((y : ℕ) → x < y → y < n → valuation d y ≡ v → opens d y ≡ true → ⊥) → last_opened d v n ≡ x
  unfolding last_opened
  last-opened-is v x e o zero l none = absurd (omega arith)
  last-opened-is v x e o (suc n) l none = ⊎_elim here (λ k. earlier k (eqb (valuation d n) v && opens d n) refl (last-opened-is v x e o n k (λ y p q. none y p (omega arith)))) (le_or_lt n x)
    where
      here : n ≤ x → last_opened d v (suc n) ≡ x
      here h =
          let z : n ≡ x = omega arith in
          rw (z, eq-eqb _ _ e, o)

      earlier : x < n → (c : Bool) → (eqb (valuation d n) v && opens d n) ≡ c → last_opened d v n ≡ x → cond c n (last_opened d v n) ≡ x
      earlier k true c ih = absurd (none n k (omega arith) (eqb-true _ _ (and_left _ (opens d n) c)) (and_right (eqb (valuation d n) v) _ c))
      earlier k false c ih = ih

  opens-rest : (y : ℕ) → opens d y ≡ true → cofactor d y % d ≡ 1
  unfolding opens
  opens-rest y o = eqb-true _ _ o

  last-opened-low : (v n : ℕ) → last_opened d v n ≤ n
  unfolding last_opened
  last-opened-low v zero = le_refl 0
  last-opened-low v (suc n) = cond_le (eqb (valuation d n) v && opens d n) (omega arith) (omega (arith, last-opened-low v n))

  pub host_le : (n : ℕ) → host d n ≤ n
  unfolding host last_opened
  host_le n = cond_le (eqb (valuation d n) (valuation d n) && opens d n) (le_refl n) (last-opened-low (valuation d n) n)

  module _ (l b : ℕ) where
    pub digit : (i : ℕ) → i < d - 1 → (b * d + suc i) % d ≡ suc i
    digit i h = digits_mod b {m = d} {r = suc i} (omega arith)

    pub odd : (i : ℕ) → i < d - 1 → (b * d + suc i) % d ≡ 0 → ⊥
    odd i h e = omega (arith, digit i h)

    pub valuation-at : (i : ℕ) → i < d - 1 → valuation d ((b * d + suc i) * d ^ l) ≡ l
    valuation-at i h = valuation_pow d two (b * d + suc i) (odd i h) l

    pub opens_at : opens d ((b * d + 1) * d ^ l) ≡ true
    unfolding opens
    opens_at = rw (cofactor_pow d two (b * d + 1) (odd 0 (omega arith)) l, digit 0 (omega arith))

    pub host-at : (i : ℕ) → i < d - 1 → host d ((b * d + suc i) * d ^ l) ≡ (b * d + 1) * d ^ l
    unfolding host
    host-at i h = rw (valuation-at i h) (last-opened-is l ((b * d + 1) * d ^ l) (valuation-at 0 (omega arith)) opens_at (suc ((b * d + suc i) * d ^ l)) (suc-le-suc (mul-le-mul_right (d ^ l) (omega arith))) none)
      where
        none : (y : ℕ) → (b * d + 1) * d ^ l < y → y < suc ((b * d + suc i) * d ^ l) → valuation d y ≡ l → opens d y ≡ true → ⊥
        none y p q e o =
            let pos : 0 < d ^ l = one-le-pow l d (omega arith) in
            let r : cofactor d y * d ^ l ≡ y = rw e at (restored d two y (omega arith)) in
            let low : b * d + 1 < cofactor d y = lt_of_mul-lt-mul_right (d ^ l) (omega arith) in
            let high : cofactor d y ≤ b * d + suc i = le_of_mul-le-mul_right {k = d ^ l} (omega arith) pos in
            let f : cofactor d y ≡ b * d + (cofactor d y - b * d) = omega arith in
            let g : (b * d + (cofactor d y - b * d)) % d ≡ cofactor d y - b * d = digits_mod b {m = d} {r = cofactor d y - b * d} (omega arith) in
            omega (arith, opens-rest y o, ap (λ (n : ℕ). n % d) f, g)

  -- every leaf but the first is such a one
  pub record Place (m : ℕ) : Type 0 where
    pub level : ℕ
    pub block : ℕ
    pub slot : ℕ
    pub fits : slot < d - 1
    pub is : m ≡ (block * d + suc slot) * d ^ level

  pub place : (m : ℕ) → 0 < m → Place m
  place m p =
      let q = cofactor d m in
      let f : q % d ≡ suc (q % d - 1) = omega (arith, not-zero) in
      let e : q ≡ q / d * d + suc (q % d - 1) = rw (← f) (sym (div-add-mod' q d)) in
      record {
        level = valuation d m;
        block = q / d;
        slot = q % d - 1;
        fits = omega (arith, mod-lt q {m = d} (omega arith), not-zero);
        is = sym (restored d two m p) ∙ ap (λ (x : ℕ). x * d ^ valuation d m) e;
      }
    where
      not-zero : 0 < cofactor d m % d
      not-zero = by (cofactor d m % d) refl
        where
          by : (x : ℕ) → cofactor d m % d ≡ x → 0 < x
          by zero e = absurd (cofactor_odd d two m p e)
          by (suc x) e = suc-le-suc zero-le

  pub opens-none : opens d 0 ≡ false
  unfolding opens cofactor cofactor_up_to
  opens-none = rw (zero-mod d)
