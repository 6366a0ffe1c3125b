-- `descent::in_leaf` meets its contract. Assumes nothing.
use Rattle.descent.proofs.Ends.{leaf_number, found_leaf}
use native.Mathlib.Omega.{arith}
use Rattle.descent.proofs.in_leaf.Goals as goal

pub node_word-at-requires-clause-node_bound : goal.node_word-at-requires-clause-node_bound
node_word-at-requires-clause-node_bound c = omega (arith, leaf_number c.requires)

pub returns : goal.returns
returns c =
    let used = c.min-used.ensures in
    let word = c.node_word-at.ensures.value in
    found_leaf c.requires _ (rw (← used, ← word) c.cut-j.ensures)
