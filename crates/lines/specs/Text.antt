-- The text of the listing (01, "One log by hand"; 02, wish 1), as ASCII codes. `numeral`, `line_text`, `named_text`,
-- `units_text` and `refused_text` are what contracts cite; the rest serves them. Assumes nothing.
use Rattle.std.specs.Prelude.{ℕ, zero, suc, ◌+◌, ◌/◌, ◌%◌, cond, List, [], ◌∷◌, ◌++◌, ltb}
use Rattle.model.specs.declared.Side.{Side}
use Rattle.model.specs.declared.Side.TheVariants.{Earlier, Later}

-- the last k decimal digits of n, without zeros in front
unfoldable pub last_digits : ℕ → ℕ → List ℕ
last_digits zero n = []
last_digits (suc k) n = cond (ltb n 10) [] (last_digits k (n / 10)) ++ ((48 + n % 10) ∷ [])

-- n in decimal, for numbers of at most 20 digits, as all of 64 bits are
unfoldable pub numeral : ℕ → List ℕ
numeral n = last_digits 20 n

-- E or L between spaces
unfoldable pub side_text : Side → List ℕ
side_text Earlier = 32 ∷ 69 ∷ 32 ∷ []
side_text Later = 32 ∷ 76 ∷ 32 ∷ []

-- time, page position, side and rows, and the line's end
unfoldable pub line_text : ℕ → ℕ → Side → ℕ → List ℕ
line_text time page side rows = numeral time ++ ((32 ∷ []) ++ (numeral page ++ (side_text side ++ (numeral rows ++ (10 ∷ [])))))

-- a word with its space, a number and the line's end
unfoldable pub named_text : List ℕ → ℕ → List ℕ
named_text word k = word ++ (numeral k ++ (10 ∷ []))

-- "a last line, `units` and the total"
unfoldable pub units_text : ℕ → List ℕ
units_text k = named_text (117 ∷ 110 ∷ 105 ∷ 116 ∷ 115 ∷ 32 ∷ []) k

-- `refused` and the number
unfoldable pub refused_text : ℕ → List ℕ
refused_text k = named_text (114 ∷ 101 ∷ 102 ∷ 117 ∷ 115 ∷ 101 ∷ 100 ∷ 32 ∷ []) k
