-- Parts of a list: written, moved, filled, compared. Elements are bytes, words or anything else.
-- Assumes nothing.
use Rattle.std.specs.Prelude.{ℕ, ◌+◌, List, [], ◌∷◌, ◌++◌, Bool, true, false, ◌&&◌, length, take, drop, replicate, eqb}
use Rattle.std.proofs.Math.Seq.{slice, paste}

-- n zeros
abbrev pub zeros : ℕ → List ℕ
zeros n = replicate n 0

-- the k elements from place at on
abbrev pub part : {A : Type 0} → ℕ → ℕ → List A → List A
part at k xs = take k (drop at xs)

-- xs with vs written from place at on, all else as it was
abbrev pub put : {A : Type 0} → List A → ℕ → List A → List A
put xs at vs = take at xs ++ (vs ++ drop (at + length vs) xs)

-- xs with the elements from `low` up to `high` moved `by` places up; those they leave stay as they were
abbrev pub moved_up : {A : Type 0} → List A → ℕ → ℕ → ℕ → List A
moved_up xs low high by = take (low + by) xs ++ (slice low high xs ++ drop (high + by) xs)

-- xs with k elements from place `source` on copied to place at
abbrev pub moved_down : {A : Type 0} → List A → ℕ → ℕ → ℕ → List A
moved_down xs at source k = paste xs at (drop source xs) k

-- whether two lists of numbers have one length and agree at each place
unfoldable pub same : List ℕ → List ℕ → Bool
same [] [] = true
same [] (y ∷ ys) = false
same (x ∷ xs) [] = false
same (x ∷ xs) (y ∷ ys) = eqb x y && same xs ys
