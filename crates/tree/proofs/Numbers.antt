-- The packed numbering in closed form: leaf m is node m + inners d m. The nodes that were opened are counted turn
-- by turn of d leaves, and so level by level. Assumes nothing.
use Prim.Native.Nat.{ℕ, zero, suc, ◌+◌, ◌-◌, ◌*◌, ◌/◌, ◌%◌, ◌^◌, ◌≤◌, ◌<◌, min, zero-le, suc-le-suc}
use mathlib.Core.Path.{◌≡◌, refl, sym, ap, ap₂, ◌∙◌}
use mathlib.Core.Bool.{Bool, true, false, cond}
use native.Mathlib.Omega.{arith}
use native.Mathlib.Nat.{zero-div, zero-mod, div-add-mod', mod-lt, le_refl, zero-mul, add-zero, zero-add, add-suc, pow-zero, pow-succ', div-one, div-div-eq-div-mul}
use lib.Arith.{digits_div, digits_mod}
use borrow.Author.Tests.{ne_eqb}
use Rattle.model.specs.Shape.{cofactor_up_to, cofactor, opens}
use Rattle.model.specs.Numbering.{opened, nodes, leaf_node}
use Rattle.tree.specs.Levels.{inners, inners_up_to, sum_of}
use Rattle.tree.proofs.Valuations.{cofactor-none, cofactor_mul, div_less}

pub not_opened : (d m : ℕ) → opens d m ≡ false → opened d m ≡ 0
unfolding opened
not_opened d m o = rw o

module _ (d : ℕ) (two : 2 ≤ d) where
  opened-zero : opened d 0 ≡ 0
  unfolding opened opens cofactor cofactor_up_to
  opened-zero = rw (zero-mod d)

  pub opened_le : (m : ℕ) → opened d m ≤ 1
  unfolding opened
  opened_le m = by-test (opens d m)
    where
      by-test : (b : Bool) → cond b 1 0 ≤ 1
      by-test true = le_refl 1
      by-test false = zero-le

  pub opened_mul : (x : ℕ) → 0 < x → opened d (x * d) ≡ opened d x
  unfolding opened opens
  opened_mul x p = rw (cofactor_mul d two x p)

  -- by its last digit: m = x * d + f
  opened_one : (x : ℕ) → opened d (x * d + 1) ≡ 1
  unfolding opened opens
  opened_one x =
      let f = digits_mod x {m = d} {r = 1} two in
      rw (cofactor-none d two (x * d + 1) (λ e. omega (arith, f)), f)

  opened-more : (x f : ℕ) → 1 < f → f < d → opened d (x * d + f) ≡ 0
  unfolding opened opens
  opened-more x f h k =
      let e = digits_mod x {m = d} {r = f} k in
      rw (cofactor-none d two (x * d + f) (λ z. omega (arith, e)), e, ne_eqb f 1 (λ z. omega arith))

  -- the inner nodes that the leaves up to m opened
  opened_up_to : ℕ → ℕ
  opened_up_to zero = 0
  opened_up_to (suc m) = opened_up_to m + opened d (suc m)

  leaf-opened : (m : ℕ) → leaf_node d m ≡ m + opened_up_to m
  unfolding leaf_node nodes opened_up_to
  leaf-opened zero = rw (zero-add (opened d 0)) opened-zero
  leaf-opened (suc m) = omega (arith, leaf-opened m)

  -- in a turn of d leaves the first after x * d opens a node of level 1, and no other
  turn : (x f : ℕ) → suc f < d → opened_up_to (x * d + suc f) ≡ suc (opened_up_to (x * d))
  unfolding opened_up_to
  turn x zero h =
      let e : x * d + 1 ≡ suc (x * d) = omega arith in
      let b : opened d (suc (x * d)) ≡ 1 = rw e at (opened_one x) in
      rw e (omega (arith, b))
  turn x (suc f) h =
      let e : x * d + suc (suc f) ≡ suc (x * d + suc f) = omega arith in
      let b : opened d (suc (x * d + suc f)) ≡ 0 = rw e at (opened-more x (suc (suc f)) (omega arith) h) in
      rw e (omega (arith, b, turn x f (omega arith)))

  -- and the last opens what leaf x would open, a level lower
  turns : (x : ℕ) → opened_up_to (x * d) ≡ x + opened_up_to x
  unfolding opened_up_to
  turns zero = rw zero-mul
  turns (suc x) =
      let e : suc x * d ≡ suc (x * d + suc (d - 2)) = omega arith in
      let b : opened d (suc (x * d + suc (d - 2))) ≡ opened d (suc x) = ap (opened d) (sym e) ∙ opened_mul (suc x) (omega arith) in
      rw e (omega (arith, b, turn x (d - 2) (omega arith), turns x))

  -- hence by levels
  step : (x f : ℕ) → f < d → opened_up_to (x * d + f) ≡ (x * d + f + (d - 1)) / d + opened_up_to x
  step x zero h =
      let c : (x * d + (d - 1)) / d ≡ x = digits_div x {m = d} {r = d - 1} (omega arith) in
      rw (add-zero, c) (turns x)
  step x (suc f) h =
      let e : x * d + suc f + (d - 1) ≡ suc x * d + f = omega arith in
      let c : (suc x * d + f) / d ≡ suc x = digits_div (suc x) {m = d} {r = f} (omega arith) in
      rw (e, c) (omega (arith, turn x f h, turns x))

  by-levels : (f m : ℕ) → m ≤ f → inners_up_to d f m ≡ opened_up_to m
  unfolding inners_up_to opened_up_to
  by-levels zero zero h = refl
  by-levels zero (suc m) h = absurd (omega arith)
  by-levels (suc f) m h =
      let s = rw (div-add-mod' m d) at (step (m / d) (m % d) (mod-lt m (omega arith))) in
      ap (λ (n : ℕ). (m + (d - 1)) / d + n) (by-levels f (m / d) (less m h)) ∙ sym s
    where
      less : (m : ℕ) → m ≤ suc f → m / d ≤ f
      less zero h = rw zero-div zero-le
      less (suc m) h = omega (arith, div_less d (suc m) two (suc-le-suc zero-le))

  pub leaf_closed : (m : ℕ) → leaf_node d m ≡ m + inners d m
  unfolding inners
  leaf_closed m = rw (by-levels m m (le_refl m)) (leaf-opened m)

  opened-up-to-le : (m : ℕ) → opened_up_to m ≤ m
  unfolding opened_up_to
  opened-up-to-le zero = le_refl 0
  opened-up-to-le (suc m) = omega (arith, opened-up-to-le m, opened_le (suc m))

  pub inners_le : (m : ℕ) → inners d m ≤ m
  unfolding inners
  inners_le m = rw (by-levels m m (le_refl m)) (opened-up-to-le m)

  -- one level of the closed form
  pub inners-step : (m : ℕ) → inners d m ≡ (m + (d - 1)) / d + inners d (m / d)
  unfolding inners
  inners-step m =
      rw (by-levels m m (le_refl m), by-levels (m / d) (m / d) (le_refl (m / d))) (rw (div-add-mod' m d) at (step (m / d) (m % d) (mod-lt m (omega arith))))

  pub nodes_mono : (m k : ℕ) → nodes d m ≤ nodes d (m + k)
  unfolding nodes
  nodes_mono m zero = rw add-zero (le_refl (nodes d m))
  nodes_mono m (suc k) = rw add-suc (omega (arith, nodes_mono m k))

  -- a leaf's node is one of the nodes
  pub leaf_in : (m n : ℕ) → m < n → leaf_node d m < nodes d n
  unfolding leaf_node nodes
  leaf_in m n h =
      let e : suc m + (n - suc m) ≡ n = omega arith in
      rw e at (nodes_mono (suc m) (n - suc m))

  -- ---- the sum over levels, as it is written on paper
  pub inners_sum : (f m : ℕ) → inners_up_to d f m ≡ sum_of (λ l. (m / d ^ l + (d - 1)) / d) f
  unfolding inners_up_to sum_of
  inners_sum zero m = refl
  inners_sum (suc f) m =
      let z : m / d ^ 0 ≡ m = rw pow-zero (div-one m) in
      rw (inners_sum f (m / d), z) (ap (λ (n : ℕ). (m + (d - 1)) / d + n) (same f (λ l. (m / d / d ^ l + (d - 1)) / d) (λ l. (m / d ^ suc l + (d - 1)) / d) one))
    where
      one : (l : ℕ) → (m / d / d ^ l + (d - 1)) / d ≡ (m / d ^ suc l + (d - 1)) / d
      one l = rw (div-div-eq-div-mul m d (d ^ l), pow-succ' d l)

      same : (f : ℕ) (g h : ℕ → ℕ) → ((l : ℕ) → g l ≡ h l) → sum_of g f ≡ sum_of h f
      same zero g h e = refl
      same (suc f) g h e = ap₂ (λ (x y : ℕ). x + y) (e 0) (same f (λ l. g (suc l)) (λ l. h (suc l)) (λ l. e (suc l)))

  -- one level, by the last digit
  pub inners_turn : (x f : ℕ) → f < d → inners d (x * d + f) ≡ (x * d + f + (d - 1)) / d + inners d x
  inners_turn x f h = rw (digits_div x {m = d} {r = f} h) at (inners-step (x * d + f))

  -- ---- for the code
  -- a division rounded up, by the division and what it leaves
  pub ceiling : (m : ℕ) → (m + (d - 1)) / d ≡ m / d + min (m % d) 1
  ceiling m = by (m % d) refl
    where
      by : (f : ℕ) → m % d ≡ f → (m + (d - 1)) / d ≡ m / d + min f 1
      by zero e =
          let n : m + (d - 1) ≡ m / d * d + (d - 1) = omega (arith, div-add-mod' m d) in
          rw n (omega (arith, digits_div (m / d) {m = d} {r = d - 1} (omega arith)))
      by (suc f) e =
          let n : m + (d - 1) ≡ suc (m / d) * d + f = omega (arith, div-add-mod' m d) in
          rw n (omega (arith, digits_div (suc (m / d)) {m = d} {r = f} (omega (arith, mod-lt m {m = d} (omega arith)))))

  pub inners_level : (m : ℕ) → inners d m ≡ m / d + min (m % d) 1 + inners d (m / d)
  inners_level m = omega (arith, inners-step m, ceiling m)

  -- the leaf before leaf m, and whether m opens a node
  pub leaf_before : (m : ℕ) → 0 < m → leaf_node d (m - 1) + 1 + opened d m ≡ leaf_node d m
  unfolding leaf_node nodes
  leaf_before zero p = absurd (omega arith)
  leaf_before (suc m) p =
      let e : suc m - 1 ≡ m = omega arith in
      rw e (omega arith)

  -- the nodes of n leaves end with the last leaf
  pub nodes-last : (n : ℕ) → 0 < n → nodes d n ≡ leaf_node d (n - 1) + 1
  unfolding leaf_node nodes
  nodes-last zero p = absurd (omega arith)
  nodes-last (suc n) p =
      let e : suc n - 1 ≡ n = omega arith in
      rw e (omega arith)

  pub nodes_zero : nodes d 0 ≡ 0
  unfolding nodes
  nodes_zero = refl
