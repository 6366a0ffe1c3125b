-- `outsets::choose` meets its contract: the positions of the two tables are the index's, and the later one is used where
-- strictly fewer requests lie between. Assumes nothing.
use mathlib.Core.Path.{◌∙◌}
use Rattle.pages.specs.Lent.{stretch_lent}
use Rattle.outsets.proofs.Nearness.{apart_is, nearest_later, nearest_earlier}
use Rattle.outsets.proofs.choose.Goals as goal

pub returns-then-ahead-back : goal.returns-then-ahead-back
returns-then-ahead-back c =
    let a = c.args in
    nearest_later a.l.numbers a.early a.late a.t a.l.log.now (stretch_lent a.l) a.here c.position_of-before.result c.position_of-after.result
    c.requires.position_is c.position_of-before.ensures c.position_of-after.ensures
    c.abs_diff-back.result c.abs_diff-ahead.result (c.abs_diff-back.ensures ∙ apart_is _ _) (c.abs_diff-ahead.ensures ∙ apart_is _ _) c.if-ahead-back.true

pub returns : goal.returns
returns c =
    let a = c.args in
    nearest_earlier a.l.numbers a.early a.late a.t a.l.log.now (stretch_lent a.l) a.here c.position_of-before.result c.position_of-after.result
    c.requires.position_is c.position_of-before.ensures c.position_of-after.ensures
    c.abs_diff-back.result c.abs_diff-ahead.result (c.abs_diff-back.ensures ∙ apart_is _ _) (c.abs_diff-ahead.ensures ∙ apart_is _ _) c.if-ahead-back.false
