-- `numbered::keep` meets its contract: the index is seen as one stretch. Assumes nothing.
use mathlib.Core.Path.{refl}
use Rattle.numbered.proofs.keep.Goals as goal

pub keep-requires : goal.keep-requires
keep-requires c = rw c.in_one_stretch-l.ensures.numbers c.requires

pub returns : goal.returns
returns c =
    let l = c.in_one_stretch-l.ensures in
    let k = rw (l.index, l.log, l.current, l.numbers) at c.keep.ensures in
    rw c.into.ensures
    (record {
      low = k.low;
      high = k.high;
      kept = λ catalogue e place. record {
        numbers = c.keep.result.numbers;
        verdict = c.keep.result.verdict;
        is = refl;
        kept = k.promised catalogue e place;
      };
    })
