-- The shape of the packed tree of order d (01, "Packed tree"): on which level the separator of a leaf stands,
-- when it opens a node, and which node takes it. Nodes have no numbers here: an inner node is named by the
-- leaf that opened it. Assumes nothing.
use Rattle.std.specs.Prelude.{ℕ, zero, suc, ◌+◌, ◌-◌, ◌*◌, ◌/◌, ◌%◌, List, [], ◌∷◌, ◌++◌, map, Bool, cond, ◌&&◌, length, get_or, take, drop, replicate, eqb}

-- how often d divides m, counted up to f times, and m divided by d that often
unfoldable pub valuation_up_to : ℕ → ℕ → ℕ → ℕ
valuation_up_to d zero m = 0
valuation_up_to d (suc f) m = cond (eqb (m % d) 0) (suc (valuation_up_to d f (m / d))) 0

unfoldable pub cofactor_up_to : ℕ → ℕ → ℕ → ℕ
cofactor_up_to d zero m = m
cofactor_up_to d (suc f) m = cond (eqb (m % d) 0) (cofactor_up_to d f (m / d)) m

-- "v is how often d divides m"; a number m ≥ 1 is divided fewer than m times
unfoldable pub valuation : ℕ → ℕ → ℕ
valuation d m = valuation_up_to d m m

-- "Let q be m divided by d v times"
unfoldable pub cofactor : ℕ → ℕ → ℕ
cofactor d m = cofactor_up_to d m m

-- "if q leaves 1 modulo d, a new node takes the separator" of leaf m
unfoldable pub opens : ℕ → ℕ → Bool
opens d m = eqb (cofactor d m % d) 1

-- of the leaves below m, the last that opened a node of level 1 + v: it names the open node of that level
unfoldable pub last_opened : ℕ → ℕ → ℕ → ℕ
last_opened d v zero = 0
last_opened d v (suc m) = cond (eqb (valuation d m) v && opens d m) m (last_opened d v m)

-- the node that takes the separator of leaf m: the one that m opens, else the open node of its level
unfoldable pub host : ℕ → ℕ → ℕ
host d m = last_opened d (valuation d m) (suc m)

-- ---- what a node holds

-- "unused words are zero"
abbrev pub padded : ℕ → List ℕ → List ℕ
padded w xs = xs ++ replicate (w - length xs) 0

-- the leaves that k keys take, d - 1 keys a leaf
abbrev pub leaves_of : ℕ → ℕ → ℕ
leaves_of d k = (k + (d - 2)) / (d - 1)

-- "Leaf m holds the keys of pages m × (d − 1) onward, up to d − 1 of them"
unfoldable pub leaf_words : ℕ → List ℕ → ℕ → List ℕ
leaf_words d keys m = padded (d - 1) (take (d - 1) (drop (m * (d - 1)) keys))

-- "the last key of leaf m − 1 becomes a separator"
abbrev pub separator : ℕ → List ℕ → ℕ → ℕ
separator d keys m = get_or keys (m * (d - 1) - 1) 0

-- the leaves below n whose separators the node of leaf m takes, in order
unfoldable pub takers : ℕ → ℕ → ℕ → List ℕ
takers d m zero = []
takers d m (suc n) = takers d m n ++ cond (eqb (host d n) m) (n ∷ []) []

-- the node that leaf m opened, when there are n leaves
unfoldable pub inner_words : ℕ → List ℕ → ℕ → ℕ → List ℕ
inner_words d keys n m = padded (d - 1) (map (separator d keys) (takers d m n))
