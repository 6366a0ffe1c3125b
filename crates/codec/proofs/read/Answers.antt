use Prim.Native.Nat.{◌+◌, ◌-◌}
use mathlib.Core.Path.{◌≡◌}
use native.Mathlib.Omega.{arith}
use Rattle.codec.specs.LittleEndian.{number, AreBytes}
use Rattle.codec.proofs.Numbers.{number_back, number_less}
use Rattle.codec.proofs.read.Goals as goal

pub loop-i-init : goal.loop-i-init
unfolding number
loop-i-init g c =
    let e : g.row.W - g.row.W ≡ 0 = omega arith in
    rw e

pub overflow_mul-x : goal.overflow_mul-x
unfolding AreBytes
overflow_mul-x g c =
    let l = c.loop-i in
    let small = number_less (g.row.W - l.i) 7 c.args.s.now (c.args.at + l.i) (omega arith) (λ i. omega (arith, c.type_inv.s i)) in
    omega (arith, l.invariant, small)

pub overflow_add-x-in-loop-i : goal.overflow_add-x-in-loop-i
unfolding AreBytes
overflow_add-x-in-loop-i g c =
    let l = c.loop-i in
    let small = number_less (g.row.W - l.i) 7 c.args.s.now (c.args.at + l.i) (omega arith) (λ i. omega (arith, c.type_inv.s i)) in
    omega (arith, l.invariant, small, c.type_inv.s (c.args.at + (l.i - 1)))

pub loop-i-preserved : goal.loop-i-preserved
loop-i-preserved g c =
    let l = c.loop-i in
    rw l.invariant (number_back _ (c.args.at + l.i) (c.args.at + (l.i - 1)) _ c.args.s.now (omega arith) (omega arith))

pub returns-clause-value : goal.returns-clause-value
returns-clause-value g c =
    let l = c.loop-i in
    let n : g.row.W - l.i ≡ g.row.W = omega arith in
    let e : c.args.at + l.i ≡ c.args.at = omega arith in
    rw (n, e) at l.invariant

pub returns-clause-fits : goal.returns-clause-fits
unfolding AreBytes
returns-clause-fits g c =
    let l = c.loop-i in
    rw l.invariant (number_less _ g.row.W c.args.s.now (c.args.at + l.i) (omega arith) (λ i. omega (arith, c.type_inv.s i)))
