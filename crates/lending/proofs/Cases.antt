-- Computed cases: lengths that all differ, for numbers that all differ, and each question answered no, alone and together with the
-- one behind it. Assumes nothing.
use mathlib.Core.Path.{◌≡◌, refl}
use mathlib.Core.List.{[], ◌∷◌}
use Rattle.model.specs.Answers.{answers, refuses, first_no}
use Rattle.model.specs.Settings.{order_in_range, page_size_in_range, row_limit_in_range, records_in_range}
use Rattle.model.specs.Shape.{cofactor_up_to, cofactor, opens}
use Rattle.model.specs.Numbering.{opened, nodes}
use Rattle.lending.specs.Lengths.{lengths_of}

-- five records are three pages of 2: two leaves and the node over them, of two words each
seven_lengths : lengths_of 3 2 4 5 7 ≡ answers (record { log = 144; index = 6; table = 32; entries = 7; areas = 224; output = 96; workspace = 64 })
unfolding lengths_of first_no order_in_range page_size_in_range row_limit_in_range records_in_range cofactor_up_to cofactor opens opened nodes
seven_lengths = refl

-- each number outside its limits
each_no : (lengths_of 1 2 4 5 7 ∷ lengths_of 65 2 4 5 7 ∷ lengths_of 3 1 4 5 7 ∷ lengths_of 3 65 4 5 7 ∷ lengths_of 3 2 0 5 7 ∷ lengths_of 3 2 1025 5 7
    ∷ lengths_of 3 2 4 65537 7 ∷ lengths_of 3 2 4 5 17 ∷ []) ≡ refuses 2 ∷ refuses 2 ∷ refuses 3 ∷ refuses 3 ∷ refuses 4 ∷ refuses 4 ∷ refuses 5 ∷ refuses 15 ∷ []
unfolding lengths_of first_no order_in_range page_size_in_range row_limit_in_range records_in_range
each_no = refl

-- of two the first
first_no_lem : (lengths_of 1 1 4 5 7 ∷ lengths_of 3 1 0 5 7 ∷ lengths_of 3 2 0 65537 7 ∷ lengths_of 3 2 4 65537 17 ∷ [])
    ≡ refuses 2 ∷ refuses 3 ∷ refuses 4 ∷ refuses 5 ∷ []
unfolding lengths_of first_no order_in_range page_size_in_range row_limit_in_range records_in_range
first_no_lem = refl

-- the least and the most that is answered
at_the_limits : (lengths_of 2 2 1 0 0 ∷ lengths_of 64 64 1024 65536 16 ∷ [])
    ≡ answers (record { log = 24; index = 0; table = 8; entries = 0; areas = 0; output = 24; workspace = 16 })
    ∷ answers (record { log = 1572888; index = 1134; table = 8192; entries = 16; areas = 131072; output = 24576; workspace = 16384 }) ∷ []
unfolding lengths_of first_no order_in_range page_size_in_range row_limit_in_range records_in_range cofactor_up_to cofactor opens opened nodes
at_the_limits = refl
