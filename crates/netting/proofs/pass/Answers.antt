-- `netting::pass` meets its contract: the first rows not yet passed are compared by article, and then by count. Assumes nothing.
use mathlib.Core.Path.{◌≡◌, sym, ◌∙◌}
use native.Mathlib.Omega.{arith}
use Rattle.rows.specs.Table.{count_at}
use Rattle.netting.proofs.Passing.{head_smaller, head_same, passes_gone, passes_come, passes_kept, passes_recounted}
use Rattle.netting.proofs.pass.Goals as goal

pub returns-then-x-y : goal.returns-then-x-y
returns-then-x-y c =
    let x = c.args in
    let u = c.requires in
    let h = head_smaller c.head-x.ensures c.head-y.ensures c.if-x-y.true in
    record { within = (omega (arith, h.0), (omega (arith, u.right_within), (omega arith, omega (arith, u.few)))); passes = rw c.put_row.ensures (passes_gone x.a.now x.b.now x.m x.n x.at.left x.at.right x.at.entries x.out.now h.0 h.1 (omega (arith, u.out_long, u.few, u.left_within, u.right_within))) }

pub returns-then-y-x : goal.returns-then-y-x
returns-then-y-x c =
    let x = c.args in
    let u = c.requires in
    let h = head_smaller c.head-y.ensures c.head-x.ensures c.if-y-x.true in
    record { within = (omega (arith, u.left_within), (omega (arith, h.0), (omega arith, omega (arith, u.few)))); passes = rw c.put_row-then-y-x.ensures (passes_come x.a.now x.b.now x.m x.n x.at.left x.at.right x.at.entries x.out.now h.0 h.1 (omega (arith, u.out_long, u.few, u.left_within, u.right_within))) }

pub returns-then-get32 : goal.returns-then-get32
returns-then-get32 c =
    let x = c.args in
    let u = c.requires in
    let same : c.head-x.result ≡ c.head-y.result = omega (arith, c.if-x-y.false, c.if-y-x.false) in
    let h = head_same c.head-x.ensures c.head-y.ensures same u.more in
    let counts : count_at x.a.now x.at.left ≡ count_at x.b.now x.at.right = omega (arith, c.get32.ensures, c.get32-2.ensures, c.if-get32.true) in
    record { within = (omega (arith, h.0), (omega (arith, h.1.0), (omega arith, omega (arith, u.few)))); passes = passes_kept x.a.now x.b.now x.m x.n x.at.left x.at.right x.at.entries x.out.now h.0 h.1.0 h.1.1 counts }

pub returns : goal.returns
returns c =
    let x = c.args in
    let u = c.requires in
    let same : c.head-x.result ≡ c.head-y.result = omega (arith, c.if-x-y.false, c.if-y-x.false) in
    let h = head_same c.head-x.ensures c.head-y.ensures same u.more in
    let counts : count_at x.a.now x.at.left ≡ count_at x.b.now x.at.right → ⊥ = λ e. c.if-get32.false (c.get32.ensures ∙ e ∙ sym c.get32-2.ensures) in
    record { within = (omega (arith, h.0), (omega (arith, h.1.0), (omega arith, omega (arith, u.few)))); passes = rw c.put_recounted.ensures (passes_recounted x.a.now x.b.now x.m x.n x.at.left x.at.right x.at.entries x.out.now h.0 h.1.0 h.1.1 counts (omega (arith, h.0, h.1.0, u.out_long, u.few))) }
