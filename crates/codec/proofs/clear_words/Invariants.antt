-- `codec::clear_words` meets its contract. Invariant: the words before this one are zero and the rest is as it was. Assumes nothing.
use mathlib.Core.Path.{◌≡◌}
use mathlib.Core.List.{◌++◌}
use lib.ListN.{drop}
use Rattle.codec.specs.Parts.{zeros}
use Rattle.codec.proofs.clear_words.Given as goal

abbrev pub invariant-loop-word : goal.invariant-loop-word
invariant-loop-word l = l.s ≡ zeros l.word-index ++ drop l.word-index l.fn.s
