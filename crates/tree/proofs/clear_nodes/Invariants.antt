-- `tree::clear_nodes` meets its contract, node by node. Invariant: the nodes before i are zeros. Assumes nothing.
use mathlib.Core.Path.{◌≡◌}
use lib.ListN.{length}
use Rattle.tree.specs.Places.{without_nodes_at}
use Rattle.tree.specs.Extents.{place_in}
use Rattle.tree.proofs.clear_nodes.Given as goal

abbrev pub invariant-loop-i : goal.invariant-loop-i
invariant-loop-i l =
    (length l.index ≡ length l.initial.index) × (l.index ≡ without_nodes_at (place_in l.d l.x) l.d l.i l.initial.index)
