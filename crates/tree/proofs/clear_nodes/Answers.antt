use Prim.Native.Nat.{◌-◌}
use mathlib.Core.Path.{refl, ◌∙◌}
use Rattle.model.specs.Tree.{with_nodes}
use Rattle.tree.specs.Places.{without_nodes_at}
use Rattle.tree.specs.Extents.{place_in}
use Rattle.tree.proofs.PlaceLaws.{clear_part}
use Rattle.tree.proofs.WrittenAt.{without_next}
use Rattle.std.proofs.Common.{rules}
use native.Mathlib.Omega.{arith}
use Rattle.tree.proofs.clear_nodes.Goals as goal

pub loop-i-init : goal.loop-i-init
unfolding without_nodes_at with_nodes
loop-i-init c = (refl, refl)

pub loop-i-preserved : goal.loop-i-preserved
loop-i-preserved c =
    let a = c.args in
    let at = place_in a.d a.x in
    let xs = a.index.now in
    let r = (c.requires.reach c.loop-i.i (omega (arith, c.nodes_of-i-end.ensures.value, c.loop-i-test.true))).inside in
    let e = clear_part c.node_word-at.result (a.d - 1) c.loop-i.index (omega (arith, c.node_word-at.ensures.value, c.loop-i.invariant.0)) c.clear_words.ensures in
    (search rules, e ∙ rw (c.node_word-at.ensures.value, c.loop-i.invariant.1) (without_next at a.d c.loop-i.i xs))
