-- What is said of a store's memory, said of what it lends. Assumes nothing.
use Rattle.std.specs.Prelude.{ℕ, List}
use Rattle.model.specs.declared.Entry.{Entry}
use Rattle.model.specs.declared.Position.{Position}
use Rattle.model.specs.Memory.{State}
use Rattle.model.specs.Promises.{store_of}
use Rattle.tree.specs.Extents.{stretch_in}
use Rattle.pages.specs.declared.lent.Lent.{Lent}
use Rattle.pages.specs.Paged.{Indexed, PositionIs}

-- the index, seen as one stretch
abbrev pub stretch_lent : Lent → List ℕ
stretch_lent l = stretch_in l.numbers.order l.extents l.index.now

-- the store, whose catalogue and areas are these
abbrev pub store_lent : Lent → List Entry → List ℕ → State
store_lent l catalogue areas = store_of l.numbers l.log.now (stretch_lent l) l.current.now catalogue areas

-- its numbers are within their limits, and its index has room for its records
abbrev pub IndexedLent : Lent → Type 0
IndexedLent l = Indexed l.numbers.order l.numbers.page l.numbers.records l.extents.words

-- p is the position of t
abbrev pub PositionLent : Lent → ℕ → Position → Type 0
PositionLent l t p = PositionIs l.numbers t l.log.now (stretch_lent l) p
