-- Full runs of d ^ l leaves: under a node of level 1 + l the numbers repeat, so that a descent can carry them along
-- and an append can find the open node by counting back. Assumes nothing.
use Prim.Native.Nat.{ℕ, zero, suc, ◌+◌, ◌-◌, ◌*◌, ◌/◌, ◌%◌, ◌^◌, ◌≤◌, ◌<◌}
use mathlib.Core.Path.{◌≡◌, refl, sym, ap, subst}
use native.Mathlib.Omega.{arith}
use native.Mathlib.Nat.{div-add-mod', mod-lt, zero-mul, add-zero, pow-zero, pow-suc, div-lt_iff_lt-mul, mul-add-div_right, mul-lt-mul_of_pos_right, one-le-pow, mul_comm}
use lib.Arith.{digits_div}
use Rattle.model.specs.Shape.{valuation, host}
use Rattle.model.specs.Numbering.{leaf_node}
use Rattle.tree.specs.Levels.{inners, inners_over, full_nodes}
use Rattle.tree.specs.Append.{slot}
use Rattle.tree.proofs.Hosts.{Place, place, host-at, valuation-at}
use Rattle.tree.proofs.Takers.{slot_at}
use Rattle.tree.proofs.Numbers.{inners_turn, inners_le, leaf_closed}

-- the inner nodes over a full run, level by level
pub over_zero : (d : ℕ) → inners_over d 0 ≡ 0
unfolding inners_over
over_zero d = refl

pub over_step : (d l : ℕ) → inners_over d (suc l) ≡ d ^ l + inners_over d l
unfolding inners_over
over_step d l = refl

module _ (d : ℕ) (two : 2 ≤ d) where
  pub inners_add : (l b x : ℕ) → x < d ^ l → inners d (b * d ^ l + x) ≡ inners d (b * d ^ l) + inners d x
  inners_add zero b x h =
      let e : x ≡ 0 = omega (arith, pow-zero d) in
      rw (e, add-zero) (omega (arith, inners_le d two 0))
  inners_add (suc l) b x h =
      let u = d ^ l in
      let y : ℕ = x / d in
      let f : ℕ = x % d in
      let fl : f < d = mod-lt x (omega arith) in
      let s : y * d + f ≡ x = div-add-mod' x d in
      let yl : y < u = (div-lt_iff_lt-mul {k = d} {x = x} {y = u} (omega arith)).1 (rw pow-suc at h) in
      let whole : b * d ^ suc l + x ≡ (b * u + y) * d + f = omega (arith, ap (λ (n : ℕ). b * n) (pow-suc d l)) in
      let full : b * d ^ suc l ≡ b * u * d + 0 = omega (arith, ap (λ (n : ℕ). b * n) (pow-suc d l)) in
      let k : (b * u + y) * d + f + (d - 1) ≡ b * u * d + (y * d + f + (d - 1)) = omega arith in
      let c : ((b * u + y) * d + f + (d - 1)) / d ≡ b * u + (y * d + f + (d - 1)) / d = rw k (mul-add-div_right (omega arith) (b * u) (y * d + f + (d - 1))) in
      let z : (b * u * d + 0 + (d - 1)) / d ≡ b * u = rw add-zero (digits_div (b * u) {m = d} {r = d - 1} (omega arith)) in
      let own = rw s at (inners_turn d two y f fl) in
      rw (whole, full) (omega (arith, inners_turn d two (b * u + y) f fl, c, inners_turn d two (b * u) 0 (omega arith), z, own, ap (λ (n : ℕ). (n + (d - 1)) / d) s, inners_add l b y yl))

  pub leaf_add : (l b x : ℕ) → x < d ^ l → leaf_node d (b * d ^ l + x) ≡ leaf_node d (b * d ^ l) + leaf_node d x
  leaf_add l b x h = omega (arith, leaf_closed d two (b * d ^ l + x), leaf_closed d two (b * d ^ l), leaf_closed d two x, inners_add l b x h)

  -- the inner nodes over a full run of d ^ l leaves
  pub inners-run : (l j : ℕ) → j < d - 1 → inners d (suc j * d ^ l) ≡ suc j * inners_over d l + 1
  unfolding inners_over
  inners-run zero j h =
      let e : suc j * d ^ 0 ≡ 0 * d + suc j = omega (arith, ap (λ (n : ℕ). suc j * n) (pow-zero d)) in
      let k : 0 * d + suc j + (d - 1) ≡ 1 * d + j = omega arith in
      let c : (0 * d + suc j + (d - 1)) / d ≡ 1 = rw k (digits_div 1 {m = d} {r = j} (omega arith)) in
      rw e (omega (arith, inners_turn d two 0 (suc j) (omega arith), inners_le d two 0, c))
  inners-run (suc l) j h =
      let e : suc j * d ^ suc l ≡ suc j * d ^ l * d + 0 = omega (arith, ap (λ (n : ℕ). suc j * n) (pow-suc d l)) in
      let z : (suc j * d ^ l * d + 0 + (d - 1)) / d ≡ suc j * d ^ l = rw add-zero (digits_div (suc j * d ^ l) {m = d} {r = d - 1} (omega arith)) in
      rw e (omega (arith, inners_turn d two (suc j * d ^ l) 0 (omega arith), z, inners-run l j h))

  pub run_closed : (l : ℕ) → inners_over d l * (d - 1) + 1 ≡ d ^ l
  unfolding inners_over
  run_closed zero = rw (zero-mul, pow-zero)
  run_closed (suc l) =
      let n : d ≡ suc (d - 1) = omega arith in
      let e : d ^ l * d ≡ d ^ l * suc (d - 1) = ap (λ (k : ℕ). d ^ l * k) n in
      rw pow-suc (omega (arith, run_closed l, e))

  -- child j + 1 of the node over the leaves from b * d ^ suc l on: its first leaf, by the first leaf of all
  pub leaf_child : (l b j : ℕ) → j < d - 1 → leaf_node d (b * d ^ suc l + suc j * d ^ l) ≡ leaf_node d (b * d ^ suc l) + suc j * inners_over d (suc l) + 1
  unfolding inners_over
  leaf_child l b j h =
      let below : suc j * d ^ l < d ^ suc l = rw pow-suc (omega (arith, mul-lt-mul_of_pos_right {m = suc j} {n = d} {k = d ^ l} (omega arith) (one-le-pow l d (omega arith)))) in
      omega (arith, leaf_add (suc l) b (suc j * d ^ l) below, leaf_closed d two (suc j * d ^ l), inners-run l j h)

  pub run_step : (l : ℕ) → inners_over d (suc l) ≡ d * inners_over d l + 1
  unfolding inners_over
  run_step l =
      let n : d ≡ suc (d - 1) = omega arith in
      let e : d * inners_over d l ≡ suc (d - 1) * inners_over d l = ap (λ (k : ℕ). k * inners_over d l) n in
      omega (arith, run_closed l, e)

  -- the nodes of a full run of the next width
  pub full-step : (l : ℕ) → full_nodes d (suc l) ≡ full_nodes d l * d + 1
  unfolding inners_over
  full-step l = omega (arith, run_step (suc l), mul_comm d (d ^ l + inners_over d l))

  pub full_zero : full_nodes d 0 ≡ 1
  unfolding inners_over
  full_zero = rw pow-zero

  -- the leaf that opened the node of leaf m, by the full runs between the two
  pub leaf_hosted : (m : ℕ) → 0 < m → leaf_node d (host d m) + slot d m * full_nodes d (valuation d m) ≡ leaf_node d m
  unfolding inners_over
  leaf_hosted m p = subst (λ (n : ℕ). leaf_node d (host d n) + slot d n * full_nodes d (valuation d n) ≡ leaf_node d n) (sym pl.is) there
    where
      pl : Place d two m
      pl = place d two m p

      l : ℕ
      l = pl.level

      b : ℕ
      b = pl.block

      i : ℕ
      i = pl.slot

      there : leaf_node d (host d ((b * d + suc i) * d ^ l)) + slot d ((b * d + suc i) * d ^ l) * full_nodes d (valuation d ((b * d + suc i) * d ^ l)) ≡ leaf_node d ((b * d + suc i) * d ^ l)
      there =
          let a : ℕ = b * d ^ suc l in
          let e : (b * d + suc i) * d ^ l ≡ a + suc i * d ^ l = omega (arith, ap (λ (n : ℕ). b * n) (pow-suc d l)) in
          let f : (b * d + 1) * d ^ l ≡ a + 1 * d ^ l = omega (arith, ap (λ (n : ℕ). b * n) (pow-suc d l)) in
          let one = leaf_child l b 0 (omega arith) in
          let many = leaf_child l b i pl.fits in
          rw (host-at d two l b i pl.fits, slot_at d two l b i pl.fits, valuation-at d two l b i pl.fits, e, f) (omega (arith, one, many))
