-- `codec::read` meets its contract. Invariant: x is the number of the bytes from i on. Assumes nothing.
use Prim.Native.Nat.{◌+◌, ◌-◌}
use mathlib.Core.Path.{◌≡◌}
use Rattle.codec.specs.LittleEndian.{number}
use Rattle.codec.proofs.read.Given as goal

abbrev pub invariant-loop-i : goal.invariant-loop-i
invariant-loop-i g l = l.x ≡ number (g.row.W - l.i) l.s (l.at + l.i)
