-- `embed::yk_open` meets its contract: the entries that the opening names are cleared. Assumes nothing.
use mathlib.Core.Path.{refl}
use Rattle.entries.proofs.Callers.{cleared_first}
use Rattle.embed.proofs.yk_open.Goals as goal

pub returns : goal.returns
returns c =
    rw (cleared_first c.args.entries.now c.open-r.result.clears c.clear.ensures)
    (c.open-r.ensures.kept c.args.areas.now c.args.entries.now refl refl)
