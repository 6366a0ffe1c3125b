-- `filing::let_go` meets its contract: areas and entries, each closed up by itself, are those of the reduced store. Assumes nothing.
use Rattle.filing.proofs.Letting.{let_go_of}
use Rattle.filing.proofs.let_go.Goals as goal

pub returns : goal.returns
returns c =
    let a = c.args in
    let_go_of a.s a.x a.areas.now c.counted.ensures c.close_areas.ensures
