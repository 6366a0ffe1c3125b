-- `lines::put_number` meets its contract: the digits that `itoa` wrote are the numeral. Assumes nothing.
use Rattle.std.proofs.Common.{arith, ◌∙◌}
use Rattle.lines.proofs.Numerals.{decimal_numeral}
use Rattle.lines.proofs.put_number.Goals as goal

pub returns-clause-gathered : goal.returns-clause-gathered
returns-clause-gathered c =
    let e = c.as_bytes.ensures.value ∙ c.format.ensures.text ∙ decimal_numeral c.args.n (omega arith) in
    rw e at c.gather.ensures
