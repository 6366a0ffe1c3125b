use Prim.Native.Nat.{ℕ, ◌≤◌, ◌+◌}
use mathlib.Core.Path.{sym, ap₂, ◌∙◌}
use native.Mathlib.Nat.{pow-zero, pow-suc, add_comm, mul-le-mul_left}
use native.Mathlib.Numerals.{add-one}
use Rattle.tree.proofs.Runs.{over_zero, over_step}
use Rattle.descent.proofs.Descents.{unit_none, unit_of}
use native.Mathlib.Omega.{arith}
use Rattle.descent.proofs.top_of.Goals as goal

pub loop-width-init : goal.loop-width-init
loop-width-init c = (sym (pow-zero c.args.d), (sym (over_zero c.args.d), (sym (unit_none c.args.d (omega arith)), omega arith)))

pub loop-width-preserved : goal.loop-width-preserved
loop-width-preserved c =
    let a = c.args in
    let lp = c.loop-width in
    let two : 2 ≤ a.d = omega arith in
    let most : a.d ≤ 64 = omega arith in (
      rw (add-one, pow-suc, ← lp.invariant.0),
      (
        rw add-one (ap₂ (λ (x y : ℕ). x + y) lp.invariant.1.0 lp.invariant.0 ∙ add_comm _ _ ∙ sym (over_step a.d lp.level)),
        (
          rw add-one (lp.invariant.0 ∙ sym (unit_of a.d two lp.level)),
          omega (arith, mul-le-mul_left lp.width two, mul-le-mul_left lp.width most),
        ),
      ),
    )
