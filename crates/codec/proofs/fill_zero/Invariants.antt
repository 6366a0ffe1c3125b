-- `codec::fill_zero` meets its contract. Invariant: the bytes before this one are zero and the rest is as it was. Assumes nothing.
use mathlib.Core.Path.{◌≡◌}
use mathlib.Core.List.{◌++◌}
use lib.ListN.{drop}
use Rattle.codec.specs.Parts.{zeros}
use Rattle.codec.proofs.fill_zero.Given as goal

abbrev pub invariant-loop-byte : goal.invariant-loop-byte
invariant-loop-byte l = l.s ≡ zeros l.byte-index ++ drop l.byte-index l.fn.s
