-- Short names for what a contract says of lent regions: the memory of their lists, as they are lent or as the call leaves them,
-- and the store in it. Assumes nothing.
use Rattle.std.specs.Prelude.{ℕ, List, replicate}
use Rattle.codec.specs.Parts.{put}
use Rattle.model.specs.declared.Numbers.{Numbers}
use Rattle.model.specs.declared.Entry.{Entry}
use Rattle.model.specs.Memory.{Memory, State, state, no_entry}

-- the memory of these lists
abbrev pub memory_of : (log index table : List ℕ) → List Entry → List ℕ → Memory
memory_of log index table catalogue areas =
    record { log = log; index = index; table = table; catalogue = catalogue; areas = areas }

-- the catalogue with its first k entries zero
abbrev pub cleared : ℕ → List Entry → List Entry
cleared k catalogue = put catalogue 0 (replicate k no_entry)

-- the store in it, with these numbers
abbrev pub store_lent : Numbers → (log index current : List ℕ) → List Entry → List ℕ → State
store_lent s log index current catalogue areas = state s (memory_of log index current catalogue areas)
