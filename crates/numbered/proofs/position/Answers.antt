-- `numbered::position` meets its contract: the index is seen as one stretch. Assumes nothing.
use Rattle.numbered.proofs.position.Goals as goal

pub returns : goal.returns
returns c catalogue area e f =
    let l = c.in_one_stretch-l.ensures in
    record {
      answer = c.position.result;
      is = c.into.ensures;
      kept = rw (l.index, l.log, l.current, l.numbers) at (c.position.ensures catalogue area e f);
    }
