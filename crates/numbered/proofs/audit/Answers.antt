-- `numbered::audit` meets its contract: the index is seen as one stretch. Assumes nothing.
use mathlib.Core.Path.{◌≡◌, refl, ap, ◌∙◌}
use mathlib.Core.Bool.{Bool, true, false}
use Rattle.std.specs.Int.{from_bool}
use Rattle.numbered.specs.Answers.{yes_out}
use Rattle.numbered.proofs.audit.Goals as goal

-- std's number of a `bool`
told : (b : Bool) → from_bool b ≡ yes_out b
told true = refl
told false = refl

pub returns : goal.returns
returns c catalogue e =
    let l = c.in_one_stretch-l.ensures in
    c.from.ensures ∙ told c.audit.result ∙ ap yes_out (rw (l.index, l.log, l.current, l.numbers) at (c.audit.ensures catalogue e))
