-- Two numbers compared three ways, what the tests say in each way, and the halves of a test that came out true.
-- Assumes nothing.
use Prim.Native.Nat.{ℕ, ◌≤◌, ◌<◌}
use mathlib.Core.Path.{◌≡◌, refl}
use mathlib.Core.Bool.{Bool, true, false, ◌&&◌, ◌||◌, false≢true}
use native.Mathlib.Omega.{arith}
use lib.Dec.{ltb, eqb}
use borrow.Author.Tests.{le-ltb, eq-eqb, ne_eqb, ltb-true, ltb-false}

pub data Compared (a b : ℕ) : Type 0 where
  less : a < b → Compared a b
  same : a ≡ b → Compared a b
  more : b < a → Compared a b

pub compared : (a b : ℕ) → Compared a b
compared a b = by-lt (ltb a b) refl
  where
    by-gt : b ≤ a → (t : Bool) → ltb b a ≡ t → Compared a b
    by-gt h true e = more (ltb-true b a e)
    by-gt h false e = let k : a ≤ b = ltb-false b a e in same (omega arith)

    by-lt : (t : Bool) → ltb a b ≡ t → Compared a b
    by-lt true e = less (ltb-true a b e)
    by-lt false e = by-gt (ltb-false a b e) (ltb b a) refl

pub ltb_self : (a : ℕ) → ltb a a ≡ false
ltb_self a = le-ltb a a (omega arith)

pub eqb_self : (a : ℕ) → eqb a a ≡ true
eqb_self a = eq-eqb a a refl

pub gt_ltb : {a b : ℕ} → b < a → ltb a b ≡ false
gt_ltb {a} {b} h = le-ltb a b (omega arith)

pub same_ltb : {a b : ℕ} → a ≡ b → ltb a b ≡ false
same_ltb {a} {b} h = le-ltb a b (omega arith)

pub lt_eqb : {a b : ℕ} → a < b → eqb a b ≡ false
lt_eqb {a} {b} h = ne_eqb a b (λ e. omega arith)

pub gt_eqb : {a b : ℕ} → b < a → eqb a b ≡ false
gt_eqb {a} {b} h = ne_eqb a b (λ e. omega arith)

-- ---- halves of tests

pub and_left : (p q : Bool) → (p && q) ≡ true → p ≡ true
and_left true q e = refl
and_left false q e = absurd (false≢true e)

pub and_right : (p q : Bool) → (p && q) ≡ true → q ≡ true
and_right true q e = e
and_right false q e = absurd (false≢true e)

pub and_both : {p q : Bool} → p ≡ true → q ≡ true → (p && q) ≡ true
and_both a b = rw (a, b)

pub or_right : (p q : Bool) → q ≡ true → (p || q) ≡ true
or_right true q e = refl
or_right false q e = e

pub or_swap : (a b c : Bool) → (a || (b || c)) ≡ (b || (a || c))
or_swap true true c = refl
or_swap true false c = refl
or_swap false true c = refl
or_swap false false c = refl
