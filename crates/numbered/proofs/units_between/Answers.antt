-- `numbered::units_between` meets its contract: the index is seen as one stretch. Assumes nothing.
use Rattle.numbered.proofs.units_between.Goals as goal

pub returns : goal.returns
returns c catalogue e f =
    let l = c.in_one_stretch-l.ensures in
    record {
      answer = c.between.result;
      is = c.into.ensures;
      kept = rw (l.index, l.log, l.current, l.numbers) at (c.between.ensures catalogue (rw l.numbers e) (rw l.numbers f));
    }
