-- What a child finds is what its parent finds. Assumes nothing.
use Rattle.descent.proofs.Descents.{raised, down_node, under_low, leaves_few, child_small, child_inside, down_child, found_child}
use Rattle.descent.proofs.Ends.{down_leaf, found_one}
use native.Mathlib.Omega.{arith}
use Rattle.descent.proofs.+descend.Goals as goal

-- ---- a leaf
pub in_leaf-requires : goal.in_leaf-requires
in_leaf-requires t c = down_leaf (rw c.if-level-eq0.true at c.requires)

pub returns-then-level-eq0 : goal.returns-then-level-eq0
returns-then-level-eq0 t c = found_one (rw c.if-level-eq0.true at c.requires) c.in_leaf.ensures

-- ---- a node, and then its child
pub in_node-j-requires : goal.in_node-j-requires
in_node-j-requires t c = down_node (raised (omega arith) c.requires)

pub child_node-child-requires : goal.child_node-child-requires
child_node-child-requires t c = omega (arith, child_small (raised (omega arith) c.requires) c.in_node-j.ensures.upto)

pub overflow_sub-under : goal.overflow_sub-under
overflow_sub-under t c = under_low (raised (omega arith) c.requires)

pub overflow_add-a : goal.overflow_add-a
overflow_add-a t c =
    let down = raised (omega arith) c.requires in
    omega (arith, child_inside down c.in_node-j.ensures.upto, leaves_few down)

pub descend-requires : goal.descend-requires
descend-requires t c =
    let down = raised (omega arith) c.requires in
    (omega arith, rw c.min-left.ensures (down_child down c.in_node-j.ensures.upto c.child_node-child.ensures c.unit_below-next.ensures))

pub returns : goal.returns
returns t c =
    let a = c.args in
    let down = raised (omega arith) c.requires in
    found_child down _ c.in_node-j.ensures (rw c.min-left.ensures at c.descend.ensures)
