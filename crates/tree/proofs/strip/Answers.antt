use Prim.Native.Nat.{ℕ, suc, ◌+◌, ◌-◌, ◌≤◌, ◌<◌, ◌*◌, ◌/◌, ◌%◌}
use mathlib.Core.Path.{◌≡◌, refl, sym, ap, ◌∙◌}
use native.Mathlib.Omega.{arith}
use native.Mathlib.Nat.{le_refl, mul-le-mul_left, div-add-mod', sub_self}
use Rattle.model.specs.Shape.{valuation}
use Rattle.tree.specs.Levels.{full_nodes}
use Rattle.tree.proofs.Valuations.{valuation_div, cofactor_div, valuation-none, cofactor-none, div_pos}
use Rattle.tree.proofs.Runs.{full_zero, full-step}
use Rattle.tree.proofs.strip.Goals as goal

pub loop-left-init : goal.loop-left-init
loop-left-init c =
    let a = c.args in
    (omega arith, (omega arith, (refl, (le_refl (valuation a.d a.m), rw sub_self (sym (full_zero a.d (omega arith)))))))

pub loop-left-preserved : goal.loop-left-preserved
loop-left-preserved c =
    let a = c.args in
    let lp = c.loop-left in
    let two : 2 ≤ a.d = omega arith in
    let z : lp.left % a.d ≡ 0 = omega arith in
    let p : 0 < lp.left = omega arith in
    let q : lp.left / a.d * a.d ≡ lp.left = omega (arith, div-add-mod' lp.left a.d) in
    let v = valuation_div a.d two lp.left p z in
    let n : valuation a.d a.m - valuation a.d (lp.left / a.d) ≡ suc (valuation a.d a.m - valuation a.d lp.left) = omega (arith, v) in (
      div_pos a.d lp.left two p z,
      (
        omega (arith, ap (λ (x : ℕ). x * lp.full) q, mul-le-mul_left (lp.left / a.d) two),
        (
          sym (cofactor_div a.d two lp.left p z) ∙ lp.invariant.1.1.0,
          (omega (arith, v), rw n (sym (full-step a.d two (valuation a.d a.m - valuation a.d lp.left) ∙ ap (λ (x : ℕ). x * a.d + 1) (sym lp.invariant.1.1.1.1)))),
        ),
      ),
    )

pub returns : goal.returns
returns c =
    let a = c.args in
    let lp = c.loop-left in
    let two : 2 ≤ a.d = omega arith in
    let n : (lp.left % a.d ≡ 0 → ⊥) = λ z. omega arith in
    let v : valuation a.d a.m - valuation a.d lp.left ≡ valuation a.d a.m = omega (arith, valuation-none a.d two lp.left n) in
    record { digit_value = ap (λ (x : ℕ). x % a.d) (sym (cofactor-none a.d two lp.left n) ∙ lp.invariant.1.1.0); full_value = lp.invariant.1.1.1.1 ∙ ap (full_nodes a.d) v }
