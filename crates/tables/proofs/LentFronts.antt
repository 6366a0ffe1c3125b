-- A part lent from the front of an output or a workspace, k elements long, that came back as the elements ys. Assumes nothing.
use Prim.Native.Nat.{ℕ, ◌≤◌}
use mathlib.Core.Path.{◌≡◌}
use mathlib.Core.List.{List, ◌++◌}
use native.Mathlib.Nat.{zero-add}
use lib.ListN.{length, drop}
use Rattle.codec.specs.Parts.{put}
use Rattle.model.specs.Promises.{Beyond}
use Rattle.model.proofs.FileLaws.{front_beyond}

pub front_back : (k : ℕ) (xs ys : List ℕ) → length ys ≡ k → ys ++ drop k xs ≡ put xs 0 ys
front_back k xs ys l = rw (zero-add (length ys), l)

pub lent_beyond : (k : ℕ) (xs ys : List ℕ) → k ≤ length xs → length ys ≡ k → Beyond k xs (ys ++ drop k xs)
lent_beyond k xs ys room l = rw (front_back k xs ys l) (front_beyond k xs ys room l)
