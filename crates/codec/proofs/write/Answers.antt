use Prim.Native.Nat.{◌+◌, ◌-◌}
use mathlib.Core.Path.{◌≡◌, sym, ◌∙◌}
use native.Mathlib.Omega.{arith}
use Rattle.codec.specs.LittleEndian.{bytes}
use Rattle.codec.proofs.PartLaws.{put-nil}
use Rattle.codec.proofs.Numbers.{put_byte}
use Rattle.codec.proofs.write.Goals as goal

pub loop-i-preserved : goal.loop-i-preserved
loop-i-preserved g c =
    let l = c.loop-i in
    put_byte _ _ l.left l.s (c.args.at + l.i) _ (omega arith) (omega arith) (omega arith) ∙ l.invariant

pub returns : goal.returns
unfolding bytes
returns g c =
    let l = c.loop-i in
    let none : g.row.W - l.i ≡ 0 = omega arith in
    sym (put-nil l.s (c.args.at + l.i)) ∙ (rw none at l.invariant)
