-- `lines::put_refused` meets its contract: a word and a number. Assumes nothing.
use native.Mathlib.Omega.{arith}
use Rattle.lines.specs.Text.{refused_text}
use Rattle.lines.proofs.put_refused.Goals as goal

pub returns : goal.returns
unfolding refused_text
returns c =
    let named = c.put_named.ensures in
    record { gathered = named.gathered; short = omega (arith, named.short) }
