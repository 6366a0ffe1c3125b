-- The status that the program ends with, as a number. Assumes nothing.
use Rattle.std.specs.Prelude.{ℕ}
use Rattle.printout.specs.declared.Status.{Status}
use Rattle.printout.specs.declared.Status.TheVariants.{Listed, Refused, Unread, Unwritten}

abbrev pub code_of : Status → ℕ
code_of Listed = 0
code_of Refused = 1
code_of Unread = 2
code_of Unwritten = 3
