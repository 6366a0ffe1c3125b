-- `lines::put_side` meets its contract: each arm gathers the text of its side. Assumes nothing.
use native.Mathlib.Omega.{arith}
use Rattle.lines.specs.Text.{side_text}
use Rattle.lines.proofs.put_side.Goals as goal

pub returns-in-Earlier : goal.returns-in-Earlier
unfolding side_text
returns-in-Earlier c =
    let e = c.in-Earlier.is in
    record { gathered = rw e c.gather.ensures; short = omega (arith, c.gather.ensures.ends) }

pub returns-in-Later : goal.returns-in-Later
unfolding side_text
returns-in-Later c =
    let e = c.in-Later.is in
    record { gathered = rw e c.gather-in-Later.ensures; short = omega (arith, c.gather-in-Later.ensures.ends) }
