-- `tree_audit::holds_tree` meets its contract. Invariant: the leaves before leaf m, and the nodes that they opened, stand.
-- Measure: the records that are left. Assumes nothing.
use Prim.Native.Nat.{◌-◌}
use Rattle.tree.specs.Places.{place_of}
use Rattle.tree_audit.proofs.Walks.{Walked}
use Rattle.tree_audit.proofs.holds_tree.Given as goal

abbrev pub invariant-loop-first : goal.invariant-loop-first
invariant-loop-first l = Walked (place_of l.order l.x.nodes l.x.starts.now) l.order l.page l.n l.b l.words l.m l.node l.first

abbrev pub decreases-loop-first : goal.decreases-loop-first
decreases-loop-first l = l.n - l.first
