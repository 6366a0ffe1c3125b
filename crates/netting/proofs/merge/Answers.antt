use Rattle.std.proofs.Common.{◌*◌, length, arith}
use Rattle.codec.proofs.PartLaws.{put-zeros}
use Rattle.netting.proofs.Passing.{merges}
use Rattle.netting.proofs.merge.Goals as goal

pub returns : goal.returns
returns c =
    let l = c.loop-way in
    let w = l.way in
    let x = c.args in
    let written = put-zeros (12 * w.entries) (length l.out) l.out (omega arith) (omega arith) c.fill_zero.ensures in
    record { within = omega arith; merged = rw written (merges x.a.now x.b.now w.left w.right w.entries x.out.now l.out (omega arith) (omega arith) (omega arith) l.invariant.passes) }
