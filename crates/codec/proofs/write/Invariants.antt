-- `codec::write` meets its contract. Invariant: what is left, written from i on, is all of it written. Assumes nothing.
use Prim.Native.Nat.{◌+◌, ◌-◌}
use mathlib.Core.Path.{◌≡◌}
use Rattle.codec.specs.LittleEndian.{bytes}
use Rattle.codec.specs.Parts.{put}
use Rattle.codec.proofs.write.Given as goal

abbrev pub invariant-loop-i : goal.invariant-loop-i
invariant-loop-i g l = put l.s (l.at + l.i) (bytes (g.row.W - l.i) l.left) ≡ put l.fn.s l.at (bytes g.row.W l.x)
