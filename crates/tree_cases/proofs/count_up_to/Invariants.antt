-- `tree_cases::count_up_to` is safe. Invariant: no more counted than seen. Assumes nothing.
use Rattle.std.proofs.Common.{◌≤◌}
use Rattle.tree_cases.proofs.count_up_to.Given as goal

abbrev pub invariant-loop-i : goal.invariant-loop-i
invariant-loop-i l = l.n ≤ l.i
