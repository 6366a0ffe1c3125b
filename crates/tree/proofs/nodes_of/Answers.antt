-- `tree::nodes_of` meets its contract: the last leaf is the last node. Assumes nothing.
use Prim.Native.Nat.{ℕ, ◌+◌}
use mathlib.Core.Path.{sym, ap, ◌∙◌}
use Rattle.model.specs.Shape.{leaves_of}
use Rattle.model.specs.Numbering.{nodes}
use Rattle.tree.proofs.Leaves.{leaves_le}
use Rattle.tree.proofs.Numbers.{nodes-last, nodes_zero}
use native.Mathlib.Omega.{arith}
use Rattle.tree.proofs.nodes_of.Goals as goal

pub returns-then-n-eq0 : goal.returns-then-n-eq0
returns-then-n-eq0 c =
    let a = c.args in
    record { value = sym (ap (nodes a.d) c.if-n-eq0.true ∙ nodes_zero a.d (omega arith)); upper_bound = omega arith }

pub returns : goal.returns
returns c =
    let a = c.args in
    record { value = ap (λ (n : ℕ). n + 1) c.leaf_node.ensures.result_value ∙ sym (nodes-last a.d (omega arith) (leaves_of a.d a.k) (omega arith)); upper_bound = omega (arith, leaves_le a.d a.k (omega arith)) }
