-- `tree::leaf_node` meets its contract, by the closed form. Assumes nothing.
use native.Mathlib.Omega.{arith}
use Rattle.tree.proofs.Numbers.{leaf_closed}
use Rattle.tree.proofs.leaf_node.Goals as goal

pub returns-clause-result_value : goal.returns-clause-result_value
returns-clause-result_value c =
    let a = c.args in
    omega (arith, leaf_closed a.d (omega arith) a.m)
