-- `codec::move_up` meets its contract: a part written at another place. Assumes nothing.
use mathlib.Core.Path.{◌∙◌}
use Rattle.codec.proofs.Moves.{copied_up}
use native.Mathlib.Omega.{arith}
use Rattle.codec.proofs.move_up.Goals as goal

pub returns : goal.returns
returns c =
    let a = c.args in
    c.copy_within.ensures.after ∙ copied_up a.s.now a.low a.high a.by c.requires.low_le_high (omega arith)
