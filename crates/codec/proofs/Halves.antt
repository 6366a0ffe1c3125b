-- A number in two parts, one right behind the other: read, written and compared. Assumes nothing.
use Prim.Native.Nat.{ℕ, zero, suc, ◌+◌, ◌*◌, ◌/◌, ◌%◌, ◌^◌, ◌≤◌, ◌<◌}
use mathlib.Core.Path.{◌≡◌, refl, sym, ap, ◌∙◌}
use mathlib.Core.Bool.{Bool, true, false}
use mathlib.Core.List.{List, ◌++◌}
use native.Mathlib.Omega.{arith}
use native.Mathlib.Nat.{zero-add, add-zero, suc-add, add-suc, add_assoc, one-mul, mul-add, mul_assoc, pow-succ', div-add-mod, mod-lt, pow-le-pow_right, add_comm}
use lib.ListN.{length, take, get_or, length-replicate, replicate-append-replicate}
use lib.Seq.{take-add, take_all, take-take}
use lib.Dec.{eqb}
use borrow.Author.Tests.{eqb-true, eqb-false}
use Rattle.codec.specs.LittleEndian.{number, bytes, AreBytes}
use Rattle.codec.specs.Parts.{part, put, same, zeros}
use Rattle.codec.proofs.PartLaws.{put-append}
use Rattle.codec.proofs.Numbers.{length-bytes, bytes-number}
use Rattle.codec.proofs.Sameness.{same_of_equal, same_of_unequal}

-- ---- read and written

-- j + k bytes are j bytes and then k bytes
pub number_add : (j k : ℕ) (xs : List ℕ) (at : ℕ) → number (j + k) xs at ≡ number j xs at + 256 ^ j * number k xs (at + j)
unfolding number
number_add zero k xs at = simp (zero-add, add-zero, one-mul)
number_add (suc j) k xs at =
    rw (suc-add, number_add j k xs (suc at), mul-add, pow-succ', suc-add, add-suc, mul_assoc, add_assoc)

pub bytes_add : (j k low high : ℕ) → low < 256 ^ j → bytes (j + k) (low + 256 ^ j * high) ≡ bytes j low ++ bytes k high
unfolding bytes
bytes_add zero k low high h =
    let e : low + 1 * high ≡ high = omega arith in
    rw (zero-add, e)
bytes_add (suc j) k low high h =
    let g : low < 256 * 256 ^ j = rw pow-succ' at h in
    let p = 256 ^ j * high in
    let s : 256 ^ suc j * high ≡ 256 * p = rw pow-succ' (mul_assoc 256 (256 ^ j) high) in
    let m : (low + 256 * p) % 256 ≡ low % 256 = omega arith in
    let d : (low + 256 * p) / 256 ≡ low / 256 + p = omega arith in
    rw (suc-add, s, m, d, bytes_add j k (low / 256) high (omega arith))

-- the bytes of a number: those of its low half, then those of its high half
pub bytes_halves : (j k n : ℕ) → bytes (j + k) n ≡ bytes j (n % 256 ^ j) ++ bytes k (n / 256 ^ j)
bytes_halves j k n =
    let e : n ≡ n % 256 ^ j + 256 ^ j * (n / 256 ^ j) = sym (div-add-mod n (256 ^ j)) ∙ add_comm _ _ in
    ap (bytes (j + k)) e ∙ bytes_add j k (n % 256 ^ j) (n / 256 ^ j) (mod-lt n (pow-le-pow_right {n = 256} (omega arith) {i = 0} {j = j} (omega arith)))

-- one byte is its number
pub number_one : (xs : List ℕ) (at : ℕ) → number 1 xs at ≡ get_or xs at 0
unfolding number
number_one xs at = omega arith

-- a number written as two halves, one right behind the other
pub put_halves : (j k n : ℕ) (xs : List ℕ) (at : ℕ) → at ≤ length xs
    → put (put xs at (bytes j (n % 256 ^ j))) (at + j) (bytes k (n / 256 ^ j)) ≡ put xs at (bytes (j + k) n)
put_halves j k n xs at h =
    let low = bytes j (n % 256 ^ j) in
    let high = bytes k (n / 256 ^ j) in
    ap (λ (m : ℕ). put (put xs at low) (at + m) high) (sym (length-bytes j (n % 256 ^ j)))
    ∙ put-append xs at low high h
    ∙ ap (put xs at) (sym (bytes_halves j k n))

-- zeros, and zeros right behind them
pub put-zeros_more : (xs : List ℕ) (at j k : ℕ) → at ≤ length xs → put (put xs at (zeros j)) (at + j) (zeros k) ≡ put xs at (zeros (j + k))
put-zeros_more xs at j k h =
    ap (λ (n : ℕ). put (put xs at (zeros j)) (at + n) (zeros k)) (sym (length-replicate j 0))
    ∙ put-append xs at (zeros j) (zeros k) h
    ∙ ap (put xs at) (replicate-append-replicate j k 0)

-- ---- compared, by numbers of w bytes

-- equal numbers have equal bytes
pub part_of_number : (w : ℕ) (xs ys : List ℕ) (at : ℕ) → AreBytes xs → AreBytes ys → at + w ≤ length xs → at + w ≤ length ys
    → number w xs at ≡ number w ys at → part at w xs ≡ part at w ys
part_of_number w xs ys at hx hy lx ly e = sym (bytes-number w xs at hx lx) ∙ ap (bytes w) e ∙ bytes-number w ys at hy ly

-- fronts that agree, and what stands behind them
pub take_more : {A : Type 0} (n k : ℕ) (xs ys : List A) → take n xs ≡ take n ys → part n k xs ≡ part n k ys → take (n + k) xs ≡ take (n + k) ys
take_more n k xs ys e f = take-add n k xs ∙ rw (e, f) (sym (take-add n k ys))

-- a number that differs
pub same-number_differs : (w : ℕ) (xs ys : List ℕ) (at : ℕ) → (number w xs at ≡ number w ys at → ⊥) → same xs ys ≡ false
same-number_differs w xs ys at h = same_of_unequal xs ys (λ e. h (ap (λ (l : List ℕ). number w l at) e))

-- a number that agrees, behind fronts that do
pub take_more_number : (w at : ℕ) (xs ys : List ℕ) → AreBytes xs → AreBytes ys → at + w ≤ length xs → at + w ≤ length ys → take at xs ≡ take at ys
    → number w xs at ≡ number w ys at → take (at + w) xs ≡ take (at + w) ys
take_more_number w at xs ys hx hy lx ly e q = take_more at w xs ys e (part_of_number w xs ys at hx hy lx ly q)

-- the last number decides, where all before it agrees; m reaches up to it, or into it
pub same-last-number : (w at m : ℕ) (xs ys : List ℕ) → AreBytes xs → AreBytes ys → at + w ≡ length xs → length xs ≡ length ys → at ≤ m → take m xs ≡ take m ys
    → eqb (number w xs at) (number w ys at) ≡ same xs ys
same-last-number w at m xs ys hx hy n l h e = by-test (eqb (number w xs at) (number w ys at)) refl
  where
    front : take at xs ≡ take at ys
    front = sym (take-take at m xs h) ∙ ap (take at) e ∙ take-take at m ys h

    whole : take (at + w) xs ≡ take (at + w) ys → xs ≡ ys
    whole q = sym (take_all (at + w) xs (omega arith)) ∙ q ∙ take_all (at + w) ys (omega arith)

    by-test : (b : Bool) → eqb (number w xs at) (number w ys at) ≡ b → b ≡ same xs ys
    by-test true t =
        sym (same_of_equal xs ys (whole (take_more_number w at xs ys hx hy (omega arith) (omega arith) front (eqb-true (number w xs at) (number w ys at) t))))
    by-test false t = sym (same-number_differs w xs ys at (eqb-false (number w xs at) (number w ys at) t))
