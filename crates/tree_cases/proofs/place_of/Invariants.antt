-- `tree_cases::place_of` meets its bounds. Invariant: as many words as leaves seen, at most. Assumes nothing.
use Rattle.std.proofs.Common.{◌≤◌, ◌+◌}
use Rattle.tree_cases.proofs.place_of.Given as goal

abbrev pub invariant-loop-j : goal.invariant-loop-j
invariant-loop-j l = (1 ≤ l.j) × (l.slot + l.j ≤ l.m + 1)
