-- `lines::put_named` meets its contract: the three texts are gathered one behind the other. Assumes nothing.
use Prim.Native.Nat.{◌≤◌}
use mathlib.Core.List.{append_assoc}
use lib.ListN.{length}
use native.Mathlib.Omega.{arith}
use Rattle.lines.specs.Text.{named_text}
use Rattle.lines.proofs.Gatherings.{gathered_then}
use Rattle.lines.proofs.put_named.Goals as goal

pub returns : goal.returns
unfolding named_text
returns c =
    let h : c.args.at ≤ length c.args.buffer.now = omega arith in
    let all = gathered_then h (gathered_then h c.gather-named.ensures c.put_number-numbered.ensures.gathered) c.gather.ensures in
    record { gathered = rw append_assoc at all; short = omega (arith, c.gather-named.ensures.ends, c.put_number-numbered.ensures.short, c.gather.ensures.ends) }
