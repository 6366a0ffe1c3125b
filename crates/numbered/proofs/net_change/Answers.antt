-- `numbered::net_change` meets its contract: the index is seen as one stretch. Assumes nothing.
use Rattle.numbered.proofs.net_change.Goals as goal

pub returns : goal.returns
returns c catalogue e f =
    let l = c.in_one_stretch-l.ensures in
    record {
      answer = c.net_change.result;
      is = c.into.ensures;
      kept = rw (l.index, l.log, l.current, l.numbers) at (c.net_change.ensures catalogue (rw l.numbers e) (rw l.numbers f));
    }
