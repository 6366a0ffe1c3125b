use native.Mathlib.Nat.{div-le_self}
use Rattle.tree.proofs.Numbers.{inners_le, inners_level}
use native.Mathlib.Omega.{arith}
use Rattle.tree.proofs.inners_up_to.Goals as goal

pub overflow_add-sum-in-loop-left : goal.overflow_add-sum-in-loop-left
overflow_add-sum-in-loop-left c =
    let a = c.args in
    let lp = c.loop-left in
    omega (arith, inners_level a.d (omega arith) lp.left, inners_le a.d (omega arith) a.m, c.min.ensures)

pub loop-left-preserved : goal.loop-left-preserved
loop-left-preserved c =
    let a = c.args in
    let lp = c.loop-left in
    (omega (arith, div-le_self lp.left a.d), omega (arith, inners_level a.d (omega arith) lp.left, c.min.ensures))

pub returns : goal.returns
returns c =
    let a = c.args in
    let lp = c.loop-left in
    record { value = omega (arith, inners_le a.d (omega arith) lp.left, inners_le a.d (omega arith) a.m); upper_bound = omega (arith, inners_le a.d (omega arith) lp.left, inners_le a.d (omega arith) a.m) }
