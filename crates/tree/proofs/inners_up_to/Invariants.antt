-- `tree::inners_up_to` meets its contract. Invariant: the sum so far and the inner nodes of what is left make
-- those of m. Measure: what is left. Assumes nothing.
use Prim.Native.Nat.{◌≤◌, ◌+◌}
use mathlib.Core.Path.{◌≡◌}
use Rattle.tree.specs.Levels.{inners}
use Rattle.tree.proofs.inners_up_to.Given as goal

abbrev pub invariant-loop-left : goal.invariant-loop-left
invariant-loop-left l = (l.left ≤ l.m) × (l.sum + inners l.d l.left ≡ inners l.d l.m)

abbrev pub decreases-loop-left : goal.decreases-loop-left
decreases-loop-left l = l.left
