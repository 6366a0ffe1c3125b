-- The texts computed: 01's line for time 40, its last line (02, wish 1), a refusal by question 17, the largest number of 64 bits
-- and 0. Assumes nothing.
use mathlib.Core.Path.{◌≡◌, refl}
use mathlib.Core.List.{[], ◌∷◌}
use Rattle.model.specs.declared.Side.TheVariants.{Later}
use Rattle.lines.specs.Text.{last_digits, numeral, side_text, line_text, named_text, units_text, refused_text}

-- `40 2 L 1`
line_of-40 : line_text 40 2 Later 1 ≡ 52 ∷ 48 ∷ 32 ∷ 50 ∷ 32 ∷ 76 ∷ 32 ∷ 49 ∷ 10 ∷ []
unfolding line_text numeral last_digits side_text
line_of-40 = refl

-- `units 50`
units_of-50 : units_text 50 ≡ 117 ∷ 110 ∷ 105 ∷ 116 ∷ 115 ∷ 32 ∷ 53 ∷ 48 ∷ 10 ∷ []
unfolding named_text units_text numeral last_digits
units_of-50 = refl

-- `refused 17`
refused_by-17 : refused_text 17 ≡ 114 ∷ 101 ∷ 102 ∷ 117 ∷ 115 ∷ 101 ∷ 100 ∷ 32 ∷ 49 ∷ 55 ∷ 10 ∷ []
unfolding named_text refused_text numeral last_digits
refused_by-17 = refl

numeral_of-0 : numeral 0 ≡ 48 ∷ []
unfolding numeral last_digits
numeral_of-0 = refl

-- `18446744073709551615`
numeral_of_all_ones : numeral 18446744073709551615
    ≡ 49 ∷ 56 ∷ 52 ∷ 52 ∷ 54 ∷ 55 ∷ 52 ∷ 52 ∷ 48 ∷ 55 ∷ 51 ∷ 55 ∷ 48 ∷ 57 ∷ 53 ∷ 53 ∷ 49 ∷ 54 ∷ 49 ∷ 53 ∷ []
unfolding numeral last_digits
numeral_of_all_ones = refl
