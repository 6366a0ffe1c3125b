-- `tree::put_leaf` meets its contract: the separator first, then the leaf from its own first word on.
-- Assumes nothing.
use Prim.Native.Nat.{◌-◌}
use mathlib.Core.Path.{◌≡◌, refl, sym, ap, ◌∙◌}
use native.Mathlib.Nat.{le_refl}
use Rattle.model.specs.Numbering.{leaf_node}
use Rattle.tree.proofs.Rooms.{leaf_small, node_reach, node_inside, node_room, put_node, leaf_later}
use Rattle.tree.proofs.PlaceLaws.{reached_wide}
use Rattle.tree.specs.Extents.{place_in}
use native.Mathlib.Omega.{arith}
use Rattle.tree.proofs.put_leaf.Goals as goal

pub node_word-at-requires : goal.node_word-at-requires
node_word-at-requires c =
    let a = c.args in
    record { le_d = c.requires.order_low; d_bound = c.requires.order_high; node_bound = omega (arith, leaf_small a.d _ a.m a.leaf.0 c.requires); reached = reached_wide (node_reach a.d _ a.m a.leaf.0 c.requires (le_refl _)) (omega arith) }

pub slice_bounds-new_node-count : goal.slice_bounds-new_node-count
slice_bounds-new_node-count c =
    let a = c.args in
    omega (arith, node_inside c.requires c.node_word-at.ensures.value (le_refl _))

pub slice_bounds-new_node-start : goal.slice_bounds-new_node-start
slice_bounds-new_node-start c =
    let a = c.args in
    omega (arith, node_inside c.requires c.node_word-at.ensures.value (le_refl _))

pub new_node-requires : goal.new_node-requires
new_node-requires c =
    let a = c.args in
    record { w_nonzero = omega (arith, c.requires.order_low); w_in_bounds = node_room c.node_word-at.result (a.d - 1) c.put_separator.new.index (omega (arith, node_inside c.requires c.node_word-at.ensures.value (le_refl _))) }

pub returns : goal.returns
returns c =
    let a = c.args in
    let w = c.node_word-at in
    let p = c.put_separator in
    let ys = p.new.index in
    let at = place_in a.d a.x in
    let e : w.result ≡ place_in a.d a.x (leaf_node a.d a.m) = w.ensures.value ∙ ap at c.requires.number in
    put_node w.result (a.d - 1) a.key ys (omega (arith, c.requires.order_low)) (omega (arith, node_inside c.requires w.ensures.value (le_refl _))) c.new_node.ensures
    ∙ rw (e, p.ensures) (sym (leaf_later at a.d a.m a.index.now a.key _ refl))
