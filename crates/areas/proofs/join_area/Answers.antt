-- `areas::join_area` meets its contract: an area that is where it goes is not moved. Assumes nothing.
use Rattle.std.proofs.Common.{◌*◌, sym}
use Rattle.areas.proofs.Moves.{moved_nowhere}
use Rattle.areas.proofs.join_area.Goals as goal
use Rattle.areas.proofs.join_area.Goals.{then-i-j, else-i-j}

pub returns-clause-is : goal.returns-clause-is
returns-clause-is c =
    let a = c.args in
    let stay = c.if-not-stays.false in
    elim c.if-i-j.branch [
      | then-i-j w ↦ rw (w.areas-is, stay) w.move_down.ensures
      | else-i-j w ↦ rw (w.areas-is, stay, w.if-i-j.false) (sym (moved_nowhere a.areas.now (a.size * a.j) a.size))
    ]
