-- `numbered::view` meets its contract: the index is seen as one stretch. Assumes nothing.
use Rattle.numbered.proofs.Spans.{span-part, span_within}
use Rattle.numbered.proofs.view.Goals as goal

pub returns : goal.returns
returns c catalogue e =
    let a = c.args in
    let l = c.in_one_stretch-l.ensures in
    let kept = rw (l.index, l.log, l.current, l.numbers) at (c.view.ensures catalogue (rw l.numbers e)) in
    record {
      answer = c.view.result;
      is = c.view_out.ensures;
      within = rw c.view_out.ensures (span_within a.s.limit a.areas.now a.current.now c.view.result);
      kept = rw (c.view_out.ensures, ← span-part a.s.limit a.areas.now a.current.now c.view.result) kept;
    }
