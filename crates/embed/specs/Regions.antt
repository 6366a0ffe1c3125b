-- The five lent regions of an exported call: the store in their lists as they are lent, and the memory of their lists as the call
-- leaves it. Assumes nothing.
use Rattle.std.specs.Prelude.{ℕ, List}
use Rattle.model.specs.declared.Numbers.{Numbers}
use Rattle.model.specs.declared.Entry.{Entry}
use Rattle.model.specs.Memory.{Memory, State}
use Rattle.numbered.specs.Lent.{memory_of, store_lent}

abbrev pub as_lent : Numbers → (log index current : List ℕ) → List Entry → List ℕ → State
as_lent s log index current entries areas = store_lent s log index current entries areas

abbrev pub as_left : (log index current : List ℕ) → List Entry → List ℕ → Memory
as_left log index current entries areas = memory_of log index current entries areas
