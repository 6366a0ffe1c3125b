-- `tree_cases::number` meets its bounds. Invariant: no more nodes opened than leaves seen. Assumes nothing.
use Rattle.std.proofs.Common.{◌+◌, ◌≤◌, ◌<◌}
use Rattle.tree_cases.proofs.number.Given as goal

abbrev pub invariant-loop-j : goal.invariant-loop-j
invariant-loop-j l = (l.m ≤ l.n) × (l.n < l.m + l.j)
