-- `netting::put_recounted` meets its contract: two entries, one right behind the other. Assumes nothing.
use Prim.Native.Nat.{◌+◌, ◌*◌}
use mathlib.Core.Path.{◌≡◌, ◌∙◌}
use native.Mathlib.Omega.{arith}
use lib.ListN.{length}
use Rattle.codec.proofs.PartLaws.{put-append}
use Rattle.model.specs.NetChange.{change_bytes}
use Rattle.netting.specs.Merge.{change_at}
use Rattle.netting.proofs.ChangeBytes.{length_change_bytes}
use Rattle.netting.proofs.put_recounted.Goals as goal

pub returns : goal.returns
returns c =
    let x = c.args in
    let out = change_bytes (change_at 3 x.was.now x.i) in
    let into = change_bytes (change_at 2 x.is.now x.j) in
    let next : 12 * (x.k + 1) ≡ 12 * x.k + length out = omega (arith, length_change_bytes (change_at 3 x.was.now x.i)) in
    c.put_row-2.ensures ∙ rw (c.put_row.ensures, next) (put-append x.out.now (12 * x.k) out into (omega arith))
