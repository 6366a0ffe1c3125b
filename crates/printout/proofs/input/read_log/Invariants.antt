-- What is done lies in the log. Measure: the bytes left.
use Rattle.std.proofs.Common.{length, ◌-◌, ◌≤◌}
use Rattle.printout.proofs.input.read_log.Given as goal

abbrev pub invariant-loop-done : goal.invariant-loop-done
invariant-loop-done g l = l.done ≤ length l.log

abbrev pub decreases-loop-done : goal.decreases-loop-done
decreases-loop-done g l = length l.initial.log - l.done
