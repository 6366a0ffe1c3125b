-- The audit of marks (02, wish 3), computed on the stores of FileStores. Assumes nothing.
use Prim.Native.Nat.{ℕ}
use mathlib.Core.Path.{◌≡◌, refl}
use mathlib.Core.List.{[], ◌∷◌, map}
use mathlib.Core.Bool.{true, false}
use lib.ListN.{replicate}
use Rattle.model.specs.Memory.{State}
use Rattle.model.specs.Audit.{audit_of}
use Rattle.model.proofs.FileStores.{marking, file, with, four, friday, sunday}
use Rattle.model.proofs.FileComputed.{full}

-- the marks of the first file and of the free entry
abbrev strange : ℕ → ℕ → State
strange j k =
    with 4 (file 10 j ∷ file 20 5 ∷ file 30 5 ∷ file 40 0 ∷ record { time = 0; rows = 0; mark = k } ∷ []) four.memory.areas

audits : map audit_of (four ∷ friday ∷ sunday ∷ full ∷ strange 0 0 ∷ strange 5 0 ∷ []) ≡ replicate 6 true
unfolding marking
audits = refl

denied : map audit_of (strange 1 0 ∷ strange 6 0 ∷ strange 8 0 ∷ strange 7 5 ∷ strange 7 9 ∷ []) ≡ replicate 5 false
unfolding marking
denied = refl
