use mathlib.Core.Path.{◌∙◌}
use native.Mathlib.Omega.{arith}
use Rattle.tree_audit.specs.Times.{Decides}
use Rattle.tree_audit.proofs.Standings.{tree_held, tree_not_held}
use Rattle.tree.proofs.PlaceLaws.{reached_wide}
use Rattle.tree_audit.proofs.Walks.{walked_none, walked_all, walked_small, node_small, node_reached, leaf_reached}
use Rattle.tree_audit.proofs.Walks.{walked_openable, walked_readable, walked_leaf, walked_not_opened, walked_not_leaf, walked_next}
use Rattle.tree_audit.proofs.holds_tree.Goals as goal

pub loop-first-init : goal.loop-first-init
loop-first-init c =
    let a = c.args in
    walked_none a.order a.page a.n a.b.now a.words.now c.requires

pub node_word-at-requires : goal.node_word-at-requires
node_word-at-requires c =
    let a = c.args in
    record { le_d = omega (arith, c.requires.order_low); d_bound = omega (arith, c.requires.order_high); node_bound = omega (arith, node_small a.order a.page a.n a.b.now a.words.now c.requires c.loop-first.invariant c.loop-first-test.true); reached = reached_wide (node_reached a.order a.page a.n a.b.now a.words.now c.requires c.loop-first.invariant c.loop-first-test.true) (omega arith) }

pub holds_opened-requires : goal.holds_opened-requires
holds_opened-requires c =
    let a = c.args in
    walked_openable a.order a.page a.n a.b.now a.words.now c.requires c.loop-first.invariant c.loop-first-test.true _ c.span_of-span.result c.node_word-at.ensures.value c.span_of-span.ensures.few

pub returns-then-not-holds_opened : goal.returns-then-not-holds_opened
unfolding Decides
returns-then-not-holds_opened c =
    let a = c.args in
    tree_not_held a.order a.page a.n a.b.now a.words.now c.requires
    (walked_not_opened a.order a.page a.n a.b.now a.words.now c.requires c.loop-first.invariant c.loop-first-test.true c.span_of-span.result c.span_of-span.ensures.is _ c.node_word-at.ensures.value (rw c.if-not-holds_opened.true at c.holds_opened.ensures))

pub past_opened-leaf-requires : goal.past_opened-leaf-requires
past_opened-leaf-requires c =
    let a = c.args in
    node_small a.order a.page a.n a.b.now a.words.now c.requires c.loop-first.invariant c.loop-first-test.true

pub node_word-place-requires : goal.node_word-place-requires
node_word-place-requires c =
    let a = c.args in
    let leaf = c.past_opened-leaf.ensures ∙ walked_leaf a.order a.page a.n a.b.now a.words.now c.requires c.loop-first.invariant c.loop-first-test.true c.span_of-span.result c.span_of-span.ensures.is in
    record { le_d = omega (arith, c.requires.order_low); d_bound = omega (arith, c.requires.order_high); node_bound = omega (arith, leaf, walked_small a.order a.page a.n a.b.now a.words.now c.requires c.loop-first.invariant c.loop-first-test.true); reached = reached_wide (leaf_reached a.order a.page a.n a.b.now a.words.now c.requires c.loop-first.invariant c.loop-first-test.true leaf) (omega (arith, c.well_formed)) }

pub holds_times-requires : goal.holds_times-requires
holds_times-requires c =
    let a = c.args in
    let leaf = c.past_opened-leaf.ensures ∙ walked_leaf a.order a.page a.n a.b.now a.words.now c.requires c.loop-first.invariant c.loop-first-test.true c.span_of-span.result c.span_of-span.ensures.is in
    walked_readable a.order a.page a.n a.b.now a.words.now c.requires c.loop-first.invariant c.loop-first-test.true _ (rw leaf at c.node_word-place.ensures.value)

pub returns-then-not-holds_times : goal.returns-then-not-holds_times
unfolding Decides
returns-then-not-holds_times c =
    let a = c.args in
    let leaf = c.past_opened-leaf.ensures ∙ walked_leaf a.order a.page a.n a.b.now a.words.now c.requires c.loop-first.invariant c.loop-first-test.true c.span_of-span.result c.span_of-span.ensures.is in
    tree_not_held a.order a.page a.n a.b.now a.words.now c.requires
    (walked_not_leaf a.order a.page a.n a.b.now a.words.now c.requires c.loop-first.invariant c.loop-first-test.true c.span_of-span.result c.span_of-span.ensures.is _ c.node_word-at.ensures.value _ _ leaf c.node_word-place.ensures.value (rw c.if-not-holds_times.true at c.holds_times.ensures))

pub overflow_add-node : goal.overflow_add-node
overflow_add-node c =
    let a = c.args in
    let leaf = c.past_opened-leaf.ensures ∙ walked_leaf a.order a.page a.n a.b.now a.words.now c.requires c.loop-first.invariant c.loop-first-test.true c.span_of-span.result c.span_of-span.ensures.is in
    omega (arith, leaf, walked_small a.order a.page a.n a.b.now a.words.now c.requires c.loop-first.invariant c.loop-first-test.true)

pub loop-first-preserved : goal.loop-first-preserved
unfolding Decides
loop-first-preserved c =
    let a = c.args in
    let leaf = c.past_opened-leaf.ensures ∙ walked_leaf a.order a.page a.n a.b.now a.words.now c.requires c.loop-first.invariant c.loop-first-test.true c.span_of-span.result c.span_of-span.ensures.is in
    walked_next a.order a.page a.n a.b.now a.words.now c.requires c.loop-first.invariant c.loop-first-test.true c.span_of-span.result c.span_of-span.ensures.is _ c.node_word-at.ensures.value _ _ leaf c.node_word-place.ensures.value
    (rw c.if-not-holds_opened.false at c.holds_opened.ensures) (rw c.if-not-holds_times.false at c.holds_times.ensures)

pub returns : goal.returns
returns c =
    let a = c.args in
    tree_held a.order a.page a.n a.b.now a.words.now c.requires
    (walked_all a.order a.page a.n a.b.now a.words.now c.requires c.loop-first.invariant c.loop-first-test.false)
