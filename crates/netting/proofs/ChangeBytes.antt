-- The bytes of a list of entries, and of a net change in its output: their length, where the entries stand, and an entry written
-- number by number. Assumes nothing.
use Prim.Native.Nat.{ℕ, ◌+◌, ◌*◌, ◌-◌, ◌≤◌}
use mathlib.Core.Path.{◌≡◌, refl, ap, ◌∙◌}
use mathlib.Core.List.{List, [], ◌∷◌, ◌++◌}
use native.Mathlib.Omega.{arith}
use lib.ListN.{length, length-append, length-replicate}
use Rattle.codec.specs.LittleEndian.{bytes}
use Rattle.codec.specs.Parts.{put, zeros}
use Rattle.codec.proofs.Numbers.{length-bytes}
use Rattle.codec.proofs.PartLaws.{put-append}
use Rattle.model.specs.NetChange.{Change, change_bytes, changes_bytes, net_change_bytes}

pub length_change_bytes : (c : Change) → length (change_bytes c) ≡ 12
unfolding change_bytes
length_change_bytes c = simp (length-append, length-bytes)

pub length-changes-bytes : (cs : List Change) → length (changes_bytes cs) ≡ 12 * length cs
unfolding changes_bytes
length-changes-bytes [] = refl
length-changes-bytes (c ∷ cs) = length-append (change_bytes c) (changes_bytes cs) ∙ rw (length_change_bytes c, length-changes-bytes cs) (omega arith)

pub length_net_bytes : (R : ℕ) (cs : List Change) → length cs ≤ 2 * R → length (net_change_bytes R cs) ≡ 24 * R
unfolding net_change_bytes
length_net_bytes R cs h =
    length-append (changes_bytes cs) (zeros (24 * R - 12 * length cs))
    ∙ rw (length-changes-bytes cs, length-replicate {A = ℕ} (24 * R - 12 * length cs) 0) (omega arith)

-- an entry's four numbers, each right behind the one before
pub change_put : (xs : List ℕ) (at kind article count : ℕ) → at ≤ length xs
    → put (put (put (put xs at (bytes 2 12)) (at + 2) (bytes 2 kind)) (at + 4) (bytes 4 article)) (at + 8) (bytes 4 count)
    ≡ put xs at (change_bytes (record { kind = kind; article = article; count = count }))
unfolding change_bytes bytes
change_put xs at kind article count h =
    let two = bytes 2 12 ++ bytes 2 kind in
    let three = two ++ bytes 4 article in
    ap (λ (ys : List ℕ). put (put ys (at + 4) (bytes 4 article)) (at + 8) (bytes 4 count)) (put-append xs at (bytes 2 12) (bytes 2 kind) h)
    ∙ ap (λ (ys : List ℕ). put ys (at + 8) (bytes 4 count)) (put-append xs at two (bytes 4 article) h)
    ∙ put-append xs at three (bytes 4 count) h
