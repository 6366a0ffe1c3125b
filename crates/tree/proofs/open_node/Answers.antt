-- `tree::open_node` meets its contract: the new node stands where the model numbers it, and holds the last
-- key of the leaf before. Assumes nothing.
use Prim.Native.Nat.{ℕ, ◌+◌, ◌-◌}
use mathlib.Core.Path.{◌≡◌, sym, ap, ap₂, ◌∙◌}
use mathlib.Core.List.{[], ◌∷◌}
use mathlib.Core.Bool.{true}
use lib.ListN.{get_or}
use borrow.Author.Tests.{eq-eqb}
use Rattle.codec.specs.Parts.{put}
use Rattle.model.specs.Shape.{opens, padded}
use Rattle.model.specs.Numbering.{leaf_node, inner_node}
use Rattle.tree.proofs.Rooms.{leaf_small, leaf_some, leaf_two, two-before, node_reach, node_inside, node_room, put_node, separator-own}
use Rattle.tree.proofs.PlaceLaws.{reached_wide}
use Rattle.tree.specs.Extents.{place_in}
use native.Mathlib.Omega.{arith}
use Rattle.tree.proofs.open_node.Goals as goal

pub overflow_sub-leaf : goal.overflow_sub-leaf
overflow_sub-leaf c =
    let a = c.args in
    omega (arith, leaf_two a.d _ a.m a.leaf.0 c.requires.needed c.requires.m_nonzero c.requires.d_value)

pub last_key-s-requires : goal.last_key-s-requires
last_key-s-requires c =
    let a = c.args in
    record { le_d = c.requires.needed.order_low; d_bound = c.requires.needed.order_high; leaf_bound = omega (arith, leaf_small a.d _ a.m a.leaf.0 c.requires.needed); reached = node_reach a.d _ a.m a.leaf.0 c.requires.needed (omega arith) }

pub overflow_sub-leaf-2 : goal.overflow_sub-leaf-2
overflow_sub-leaf-2 c =
    let a = c.args in
    omega (arith, leaf_some a.d _ a.m a.leaf.0 c.requires.needed c.requires.m_nonzero)

pub node_word-at-requires : goal.node_word-at-requires
node_word-at-requires c =
    let a = c.args in
    record { le_d = c.requires.needed.order_low; d_bound = c.requires.needed.order_high; node_bound = omega (arith, leaf_small a.d _ a.m a.leaf.0 c.requires.needed); reached = reached_wide (node_reach a.d _ a.m a.leaf.0 c.requires.needed (omega arith)) (omega arith) }

pub slice_bounds-new_node-count : goal.slice_bounds-new_node-count
slice_bounds-new_node-count c =
    let a = c.args in
    omega (arith, node_inside c.requires.needed c.node_word-at.ensures.value (omega arith))

pub slice_bounds-new_node-start : goal.slice_bounds-new_node-start
slice_bounds-new_node-start c =
    let a = c.args in
    omega (arith, node_inside c.requires.needed c.node_word-at.ensures.value (omega arith))

pub new_node-requires : goal.new_node-requires
new_node-requires c =
    let a = c.args in
    record { w_nonzero = omega (arith, c.requires.needed.order_low); w_in_bounds = node_room c.node_word-at.result (a.d - 1) a.index.now (node_inside c.requires.needed c.node_word-at.ensures.value (omega arith)) }

pub returns : goal.returns
unfolding opens
returns c =
    let a = c.args in
    let w = c.node_word-at in
    let xs = a.index.now in
    let at = place_in a.d a.x in
    let o : opens a.d a.m ≡ true = eq-eqb _ 1 c.requires.d_value in
    let e : w.result ≡ at (inner_node a.d a.m) = w.ensures.value ∙ ap (λ (n : ℕ). at (n - 1)) c.requires.needed.number in
    let f : c.last_key-s.result ≡ get_or xs (at (leaf_node a.d (a.m - 1)) + (a.d - 2)) 0 = c.last_key-s.ensures ∙ ap (λ (n : ℕ). get_or xs (at n + (a.d - 2)) 0) (two-before a.d _ a.m a.leaf.0 c.requires.needed c.requires.m_nonzero c.requires.d_value) in
    put_node w.result (a.d - 1) c.last_key-s.result xs (omega (arith, c.requires.needed.order_low)) (node_inside c.requires.needed w.ensures.value (omega arith)) c.new_node.ensures
    ∙ ap₂ (λ (x y : ℕ). put xs x (padded (a.d - 1) (y ∷ []))) e f ∙ sym (separator-own at a.d a.m xs _ c.requires.m_nonzero o)
