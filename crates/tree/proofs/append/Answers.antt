-- `tree::append` meets its contract: a new leaf, or the next word of the last one. Assumes nothing.
use Prim.Native.Nat.{◌-◌, ◌%◌}
use native.Mathlib.Nat.{le_refl, mod-lt}
use borrow.Author.Tests.{eq-eqb, ne_eqb}
use Rattle.tree.specs.Append.{append_of}
use Rattle.tree.proofs.Rooms.{needed_next, node_reach, node_inside}
use Rattle.tree.proofs.PlaceLaws.{reached_wide}
use native.Mathlib.Omega.{arith}
use Rattle.tree.proofs.append.Goals as goal

pub put_leaf-requires : goal.put_leaf-requires
put_leaf-requires c =
    let a = c.args in
    needed_next a.d a.k _ _ c.requires c.leaf_node-leaf.ensures.result_value

pub returns-then-i-eq0 : goal.returns-then-i-eq0
unfolding append_of
returns-then-i-eq0 c =
    let a = c.args in
    rw (eq-eqb (a.k % (a.d - 1)) 0 (omega arith)) c.put_leaf.ensures

pub node_word-requires-clause-reached : goal.node_word-requires-clause-reached
node_word-requires-clause-reached c =
    reached_wide (node_reach _ _ _ _ (needed_next c.args.d c.args.k _ _ c.requires c.leaf_node-leaf.ensures.result_value) (le_refl _)) (omega arith)

pub bounds-index-node_word : goal.bounds-index-node_word
bounds-index-node_word c =
    let a = c.args in
    let h = needed_next a.d a.k _ _ c.requires c.leaf_node-leaf.ensures.result_value in
    omega (arith, mod-lt a.k {m = a.d - 1} (omega (arith, c.requires.order_low)), node_inside h c.node_word.ensures.value (le_refl _))

pub returns : goal.returns
unfolding append_of
returns c =
    let a = c.args in
    rw (ne_eqb (a.k % (a.d - 1)) 0 (λ z. absurd (omega arith)), c.node_word.ensures.value, c.leaf_node-leaf.ensures.result_value)
