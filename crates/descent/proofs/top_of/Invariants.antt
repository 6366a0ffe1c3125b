-- `descent::top_of` meets its contract. Invariant: the unit, the width and the inner nodes of the level. Measure: by
-- how many leaves the level is too narrow. Assumes nothing.
use Prim.Native.Nat.{◌≤◌, ◌<◌, ◌+◌, ◌-◌, ◌*◌, ◌/◌, ◌^◌}
use mathlib.Core.Path.{◌≡◌}
use Rattle.tree.specs.Levels.{inners_over}
use Rattle.descent.proofs.top_of.Given as goal

abbrev pub invariant-loop-width : goal.invariant-loop-width
invariant-loop-width l =
    (l.width ≡ l.d ^ l.level) × ((l.under ≡ inners_over l.d l.level) × ((l.unit ≡ l.d ^ l.level / l.d) × ((l.level < l.width) × ((l.under < l.width) × (l.width ≤ l.n * 64 + 1)))))

abbrev pub decreases-loop-width : goal.decreases-loop-width
decreases-loop-width l = l.n - l.width
