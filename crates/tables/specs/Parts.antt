-- The part of the lent memory that a view hands back (01, "The questions, in order"). `viewed_part` and `lent` are what
-- contracts cite. Assumes nothing.
use Rattle.std.specs.Prelude.{ℕ, List, [], take, Ok, Err}
use Rattle.model.specs.declared.OutsetSaid.{OutsetSaid}
use Rattle.model.specs.Memory.{Memory}
use Rattle.model.specs.Answers.{Answer}
use Rattle.model.specs.Queries.{rows_part}

-- a memory with these areas and this current table; no part of a view lies in any other region
abbrev pub lent : List ℕ → List ℕ → Memory
lent areas current = record { log = []; index = []; table = current; catalogue = []; areas = areas }

-- the rows that an answer names; a refused view's part is the empty one at the front of the current table
unfoldable pub viewed_part : ℕ → List ℕ → List ℕ → Answer OutsetSaid → List ℕ
viewed_part R areas current (Ok said) = rows_part R (lent areas current) said.place said.rows
viewed_part R areas current (Err why) = take 0 current
