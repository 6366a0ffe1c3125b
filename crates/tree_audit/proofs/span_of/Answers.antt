-- `tree_audit::span_of` meets its contract: a full run of d ^ v leaves has 1 + d + .. + d ^ v nodes. Assumes nothing.
use Prim.Native.Nat.{◌%◌}
use mathlib.Core.Path.{◌≡◌, sym, ◌∙◌}
use native.Mathlib.Omega.{arith}
use Rattle.model.specs.Shape.{cofactor}
use Rattle.tree.proofs.Hosts.{opens-none}
use Rattle.tree_audit.proofs.Standings.{span_none, span-some, not_opens, is_opening, full_pos, span_is, span_few}
use Rattle.tree_audit.proofs.span_of.Goals as goal

pub returns-then-m-eq0 : goal.returns-then-m-eq0
returns-then-m-eq0 c =
    let a = c.args in
    record { is = sym (span_none a.d a.m (rw c.if-m-eq0.true (opens-none a.d (omega arith)))); few = omega arith }

pub returns-then-q-ne1 : goal.returns-then-q-ne1
returns-then-q-ne1 c =
    let a = c.args in
    record { is = sym (span_none a.d a.m (not_opens a.d a.m (λ e. c.if-q-ne1.true (c.strip-q.ensures.digit_value ∙ e)))); few = omega arith }

pub overflow_sub-result : goal.overflow_sub-result
overflow_sub-result c =
    let a = c.args in
    full_pos a.d a.m c.strip-q.result.full (omega arith) (omega arith) c.strip-q.ensures.full_value

pub returns : goal.returns
returns c =
    let a = c.args in
    let o : cofactor a.d a.m % a.d ≡ 1 = sym c.strip-q.ensures.digit_value ∙ c.if-q-ne1.false in
    let e = span_is a.d a.m c.strip-q.result.full (omega arith) (omega arith) c.strip-q.ensures.full_value in
    let few = span_few a.d a.m c.strip-q.result.full (omega arith) (omega arith) c.strip-q.ensures.full_value o in
    record { is = e ∙ sym (span-some a.d a.m (is_opening a.d a.m o)); few = omega (arith, e, few) }
