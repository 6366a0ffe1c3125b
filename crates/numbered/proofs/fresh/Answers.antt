-- `numbered::fresh` meets its contract. Assumes nothing.
use mathlib.Core.Path.{refl}
use Rattle.numbered.proofs.Lengths.{fresh_few}
use Rattle.numbered.proofs.fresh.Goals as goal

pub returns : goal.returns
returns c =
    record {
      few = rw c.into.ensures (fresh_few c.fresh.ensures);
      kept = rw c.into.ensures (λ index area catalogue e f. record {
        numbers = c.fresh.result.numbers;
        verdict = c.fresh.result.verdict;
        is = refl;
        kept = c.fresh.ensures.fresh index area catalogue e f;
      });
    }
