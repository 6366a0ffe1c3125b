-- `netting::merge` meets its contract. Invariant: entries stand in the output, at most one for each row passed, and the net
-- change of the rows not yet passed is what they lack to the whole. Measure: the rows not yet passed. Assumes nothing.
use Rattle.std.proofs.Common.{◌+◌, ◌-◌, ◌≤◌, ◌≡◌, length}
use Rattle.netting.specs.Merge.{Passes}
use Rattle.netting.proofs.merge.Given as goal

abbrev pub invariant-loop-way : goal.invariant-loop-way
invariant-loop-way l =
    record {
      left : l.way.left ≤ l.m;
      right : l.way.right ≤ l.n;
      few : l.way.entries ≤ l.way.left + l.way.right;
      long : length l.out ≡ length l.initial.out;
      passes : Passes l.a l.b l.m l.n 0 0 0 l.initial.out l.way.left l.way.right l.way.entries l.out;
    }

abbrev pub decreases-loop-way : goal.decreases-loop-way
decreases-loop-way l = l.m + l.n - (l.way.left + l.way.right)
