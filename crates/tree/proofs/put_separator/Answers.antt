-- `tree::put_separator` meets its contract, by the two cases of 01. Assumes nothing.
use Rattle.tree.proofs.Rooms.{cofactor_pos}
use native.Mathlib.Omega.{arith}
use borrow.Author.Tests.{eq-eqb}
use Rattle.tree.specs.Append.{with_separator}
use Rattle.tree.proofs.put_separator.Goals as goal

pub returns-then-m-eq0 : goal.returns-then-m-eq0
unfolding with_separator
returns-then-m-eq0 c = rw (eq-eqb c.args.m 0 c.if-m-eq0.true)

pub next_separator-requires-clause-lt_digit : goal.next_separator-requires-clause-lt_digit
next_separator-requires-clause-lt_digit c =
    let a = c.args in
    omega (arith, c.strip-q.ensures.digit_value, cofactor_pos a.d a.m c.requires.order_low (omega arith))
