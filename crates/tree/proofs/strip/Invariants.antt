-- `tree::strip` meets its contract. Invariant: m and what is left of it have one cofactor, and `full` counts
-- the nodes of a full run of as many levels as were divided off. Measure: what is left. Assumes nothing.
use Prim.Native.Nat.{◌+◌, ◌-◌, ◌≤◌, ◌<◌, ◌*◌}
use mathlib.Core.Path.{◌≡◌}
use Rattle.model.specs.Shape.{cofactor, valuation}
use Rattle.tree.specs.Levels.{full_nodes}
use Rattle.tree.proofs.strip.Given as goal

abbrev pub invariant-loop-left : goal.invariant-loop-left
invariant-loop-left l =
    (0 < l.left) × ((l.left * (l.full + 1) ≤ 2 * l.m) × ((cofactor l.d l.left ≡ cofactor l.d l.m) × ((valuation l.d l.left ≤ valuation l.d l.m) × (l.full ≡ full_nodes l.d (valuation l.d l.m - valuation l.d l.left)))))

abbrev pub decreases-loop-left : goal.decreases-loop-left
decreases-loop-left l = l.left
