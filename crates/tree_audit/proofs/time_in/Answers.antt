-- `tree_audit::time_in` meets its contract. Assumes nothing.
use mathlib.Core.Path.{sym, ◌∙◌}
use Rattle.tree_audit.proofs.Words.{time_there, time_past}
use Rattle.tree_audit.proofs.time_in.Goals as goal

pub returns-then-k-stop : goal.returns-then-k-stop
returns-then-k-stop c =
    let a = c.args in
    c.time_at.ensures ∙ sym (time_there a.b.now a.stop a.k c.if-k-stop.true)

pub returns : goal.returns
returns c =
    let a = c.args in
    sym (time_past a.b.now a.stop a.k c.if-k-stop.false)
