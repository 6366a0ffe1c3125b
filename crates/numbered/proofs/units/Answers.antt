-- `numbered::units` meets its contract: the index is seen as one stretch. Assumes nothing.
use Rattle.numbered.proofs.units.Goals as goal

pub returns : goal.returns
returns c catalogue e =
    let l = c.in_one_stretch-lent.ensures in
    record {
      answer = c.at.result;
      is = c.into.ensures;
      kept = rw (l.index, l.log, l.current, l.numbers) at (c.at.ensures catalogue (rw l.numbers e));
    }
