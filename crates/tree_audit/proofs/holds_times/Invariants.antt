-- `tree_audit::holds_times` meets its contract. Invariant: the words before word i are their times. Assumes nothing.
use Rattle.tree_audit.specs.Times.{TimesAt}
use Rattle.tree_audit.proofs.holds_times.Given as goal

abbrev pub invariant-loop-i : goal.invariant-loop-i
invariant-loop-i l = TimesAt l.b l.first l.step l.stop l.words l.at l.i
