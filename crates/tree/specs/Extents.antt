-- The words of `Places` for the extents that a call is given. Assumes nothing.
use Rattle.std.specs.Prelude.{ℕ, List}
use Rattle.tree.specs.declared.Extents.{Extents}
use Rattle.tree.specs.Places.{place_of, stretch_of, Reached, Laid, Seen, StretchFrame}

-- the first word of node k
abbrev pub place_in : ℕ → Extents → ℕ → ℕ
place_in d x = place_of d x.nodes x.starts.now

-- node k has a place in an index of len words
abbrev pub ReachedIn : ℕ → Extents → (len k : ℕ) → Type 0
ReachedIn d x = Reached d x.nodes x.starts.now

-- n nodes have their places in an index of len words
abbrev pub LaidIn : ℕ → Extents → (n len : ℕ) → Type 0
LaidIn d x = Laid d x.nodes x.starts.now

-- an index of len words is seen as one stretch
abbrev pub SeenIn : ℕ → Extents → (len : ℕ) → Type 0
SeenIn d x = Seen d x.nodes x.starts.now x.words

-- the index as one stretch
abbrev pub stretch_in : ℕ → Extents → (index : List ℕ) → List ℕ
stretch_in d x = stretch_of d x.nodes x.starts.now x.words

-- of the index nothing but words of the stretch's nodes was written
abbrev pub FrameIn : ℕ → Extents → (index index' : List ℕ) → Type 0
FrameIn d x = StretchFrame d x.nodes x.starts.now x.words
