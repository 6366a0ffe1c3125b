-- `lines::put_line` meets its contract: the six texts are gathered one behind the other. Assumes nothing.
use Prim.Native.Nat.{◌≤◌}
use mathlib.Core.List.{append_assoc}
use lib.ListN.{length}
use native.Mathlib.Omega.{arith}
use Rattle.lines.specs.Text.{line_text}
use Rattle.lines.proofs.Gatherings.{gathered_then}
use Rattle.std.proofs.Common.{rules}
use Rattle.lines.proofs.put_line.Goals as goal

pub returns : goal.returns
unfolding line_text
returns c =
    let h : c.args.at ≤ length c.args.buffer.now = omega arith in
    let one = gathered_then h c.put_number-timed.ensures.gathered c.gather-parted.ensures in
    let two = gathered_then h one c.put_number-paged.ensures.gathered in
    let three = gathered_then h two c.put_side-sided.ensures.gathered in
    let four = gathered_then h three c.put_number-counted.ensures.gathered in
    record { gathered = simp append_assoc at (gathered_then h four c.gather.ensures); short = search rules }
