-- `numbered::table` meets its contract: the index is seen as one stretch. Assumes nothing.
use Rattle.numbered.proofs.table.Goals as goal

pub returns : goal.returns
returns c catalogue e =
    let l = c.in_one_stretch-l.ensures in
    record {
      answer = c.table.result;
      is = c.into.ensures;
      kept = rw (l.index, l.log, l.current, l.numbers) at (c.table.ensures catalogue (rw l.numbers e));
    }
