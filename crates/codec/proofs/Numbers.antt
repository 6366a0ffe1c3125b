-- Laws of `number`, `bytes` and `AreBytes`, over the width: where a number's bytes stand, a byte more, written and
-- read back, and which lists are lists of bytes. Assumes nothing.
use Prim.Native.Nat.{ℕ, zero, suc, ◌+◌, ◌*◌, ◌/◌, ◌%◌, ◌^◌, ◌≤◌, ◌<◌}
use mathlib.Core.Path.{◌≡◌, refl, sym, ap, ◌∙◌}
use mathlib.Core.List.{List, [], ◌∷◌, ◌++◌}
use native.Mathlib.Omega.{arith}
use native.Mathlib.Nat.{add-zero, add-suc, pow-succ', pow-le-pow_right}
use lib.ListN.{length, take, drop, get_or, set}
use lib.Seq.{drop-cons, get_or-take, get_or-drop, get_or-append-add}
use Rattle.codec.specs.LittleEndian.{number, bytes, AreBytes}
use Rattle.codec.specs.Parts.{part, put, zeros}
use Rattle.codec.proofs.PartLaws.{part-put_within, part-put-before, part-put-after, put_cons}

-- ---- where a number's bytes stand

-- a number with the byte before it
pub number_back : (w i j n : ℕ) (xs : List ℕ) → i ≡ suc j → n ≡ suc w → 256 * number w xs i + get_or xs j 0 ≡ number n xs j
unfolding number
number_back w i j n xs e m = rw (e, m) (omega arith)

pub number-drop : (w j : ℕ) (xs : List ℕ) (at : ℕ) → number w (drop j xs) at ≡ number w xs (j + at)
unfolding number
number-drop zero j xs at = refl
number-drop (suc w) j xs at = rw (get_or-drop j xs at 0, number-drop w j xs (suc at), add-suc)

pub number-take : (w n : ℕ) (xs : List ℕ) (at : ℕ) → at + w ≤ n → number w (take n xs) at ≡ number w xs at
unfolding number
number-take zero n xs at h = refl
number-take (suc w) n xs at h = rw (get_or-take n xs at 0 (omega arith), number-take w n xs (suc at) (omega arith))

-- a number depends on its own bytes only
pub number-part : (w : ℕ) (xs : List ℕ) (at : ℕ) → number w xs at ≡ number w (part at w xs) 0
number-part w xs at =
    sym (number-take w w (drop at xs) 0 (omega arith) ∙ number-drop w at xs 0 ∙ ap (number w xs) (add-zero at))

pub number_of_part : (w : ℕ) (xs : List ℕ) (at : ℕ) (ys : List ℕ) (bt : ℕ) → part at w xs ≡ part bt w ys → number w xs at ≡ number w ys bt
number_of_part w xs at ys bt e = number-part w xs at ∙ ap (λ (l : List ℕ). number w l 0) e ∙ sym (number-part w ys bt)

pub number-append_right : (w : ℕ) (xs ys : List ℕ) (at : ℕ) → number w (xs ++ ys) (length xs + at) ≡ number w ys at
unfolding number
number-append_right zero xs ys at = refl
number-append_right (suc w) xs ys at =
    rw (get_or-append-add xs ys at 0, ← add-suc (length xs) at, number-append_right w xs ys (suc at))

-- ---- written, then read; read, then written

pub length-bytes : (w n : ℕ) → length (bytes w n) ≡ w
unfolding bytes
length-bytes zero n = refl
length-bytes (suc w) n = ap suc (length-bytes w (n / 256))

-- 0 is written as zeros
pub bytes_zero : (w : ℕ) → bytes w 0 ≡ zeros w
unfolding bytes
bytes_zero zero = refl
bytes_zero (suc w) = ap (λ (l : List ℕ). 0 ∷ l) (bytes_zero w)

pub number-bytes : (w n : ℕ) (rest : List ℕ) → n < 256 ^ w → number w (bytes w n ++ rest) 0 ≡ n
unfolding number bytes
number-bytes zero n rest h = omega arith
number-bytes (suc w) n rest h =
    let g : n < 256 * 256 ^ w = rw pow-succ' at h in
    let ih : number w (bytes w (n / 256) ++ rest) 0 ≡ n / 256 = number-bytes w (n / 256) rest (omega arith) in
    let tail : number w (n % 256 ∷ (bytes w (n / 256) ++ rest)) 1 ≡ n / 256 = number-append_right w (n % 256 ∷ []) (bytes w (n / 256) ++ rest) 0 ∙ ih in
    rw tail (omega arith)

-- a number written from its lowest byte on
pub put_byte : (n m x : ℕ) (xs : List ℕ) (at to : ℕ) → n ≡ suc m → to ≡ at + 1 → at < length xs → put (set xs at (x % 256)) to (bytes m (x / 256)) ≡ put xs at (bytes n x)
unfolding bytes
put_byte n m x xs at to e f h = rw (e, f) (put_cons xs at (x % 256) (bytes m (x / 256)) h)

-- a number inside what was written, before it and after it
pub number-put_within : (w i : ℕ) (xs : List ℕ) (at : ℕ) (vs : List ℕ) → at ≤ length xs → i + w ≤ length vs → number w (put xs at vs) (at + i) ≡ number w vs i
number-put_within w i xs at vs h g = number_of_part w (put xs at vs) (at + i) vs i (part-put_within i w xs at vs h g)

pub number-put-before : (w i : ℕ) (xs : List ℕ) (at : ℕ) (vs : List ℕ) → i + w ≤ at → at ≤ length xs → number w (put xs at vs) i ≡ number w xs i
number-put-before w i xs at vs h g = number_of_part w (put xs at vs) i xs i (part-put-before i w xs at vs h g)

pub number-put-after : (w i : ℕ) (xs : List ℕ) (at : ℕ) (vs : List ℕ) → at + length vs ≤ i → at ≤ length xs → number w (put xs at vs) i ≡ number w xs i
number-put-after w i xs at vs h g = number_of_part w (put xs at vs) i xs i (part-put-after i w xs at vs h g)

pub bytes-number : (w : ℕ) (xs : List ℕ) (at : ℕ) → AreBytes xs → at + w ≤ length xs → bytes w (number w xs at) ≡ part at w xs
unfolding number bytes AreBytes
bytes-number zero xs at h l = refl
bytes-number (suc w) xs at h l =
    let x = get_or xs at 0 in
    let rest = number w xs (suc at) in
    let low : x < 256 = h at in
    let m : (x + 256 * rest) % 256 ≡ x = omega arith in
    let d : (x + 256 * rest) / 256 ≡ rest = omega arith in
    rw (m, d, drop-cons xs at 0 (omega arith), bytes-number w xs (suc at) h (omega arith))

pub number_lt : (w : ℕ) (xs : List ℕ) (at : ℕ) → AreBytes xs → number w xs at < 256 ^ w
unfolding number AreBytes
number_lt zero xs at h = omega arith
number_lt (suc w) xs at h =
    let low : get_or xs at 0 < 256 = h at in
    let ih : number w xs (suc at) < 256 ^ w = number_lt w xs (suc at) h in
    rw pow-succ' (omega arith)

-- a number of fewer bytes than v
pub number_less : (w v : ℕ) (xs : List ℕ) (at : ℕ) → w ≤ v → AreBytes xs → number w xs at < 256 ^ v
number_less w v xs at h k =
    let n : number w xs at < 256 ^ w = number_lt w xs at k in
    let p : 256 ^ w ≤ 256 ^ v = pow-le-pow_right {n = 256} (omega arith) {i = w} {j = v} h in
    omega arith

-- ---- lists of bytes

pub are_bytes-nil : AreBytes []
unfolding AreBytes
are_bytes-nil i = omega arith

pub are_bytes-cons : (x : ℕ) (xs : List ℕ) → x < 256 → AreBytes xs → AreBytes (x ∷ xs)
unfolding AreBytes
are_bytes-cons x xs h k zero = h
are_bytes-cons x xs h k (suc i) = k i

pub bytes_are_bytes : (w n : ℕ) → AreBytes (bytes w n)
unfolding bytes
bytes_are_bytes zero n = are_bytes-nil
bytes_are_bytes (suc w) n = are_bytes-cons (n % 256) (bytes w (n / 256)) (omega arith) (bytes_are_bytes w (n / 256))

pub are_bytes-zeros : (n : ℕ) → AreBytes (zeros n)
are_bytes-zeros zero = are_bytes-nil
are_bytes-zeros (suc n) = are_bytes-cons 0 (zeros n) (omega arith) (are_bytes-zeros n)

pub are_bytes-append : (xs ys : List ℕ) → AreBytes xs → AreBytes ys → AreBytes (xs ++ ys)
unfolding AreBytes
are_bytes-append [] ys h k = k
are_bytes-append (x ∷ xs) ys h k = are_bytes-cons x (xs ++ ys) (h 0) (are_bytes-append xs ys (λ i. h (suc i)) k)

pub are_bytes-drop : (n : ℕ) (xs : List ℕ) → AreBytes xs → AreBytes (drop n xs)
unfolding AreBytes
are_bytes-drop n xs h i = rw (get_or-drop n xs i 0) (h (n + i))

pub are_bytes-take : (n : ℕ) (xs : List ℕ) → AreBytes xs → AreBytes (take n xs)
unfolding AreBytes
are_bytes-take zero xs h = are_bytes-nil
are_bytes-take (suc n) [] h = are_bytes-nil
are_bytes-take (suc n) (x ∷ xs) h = are_bytes-cons x (take n xs) (h 0) (are_bytes-take n xs (λ i. h (suc i)))

pub are_bytes-put : (xs : List ℕ) (at : ℕ) (vs : List ℕ) → AreBytes xs → AreBytes vs → AreBytes (put xs at vs)
are_bytes-put xs at vs h k =
    are_bytes-append (take at xs) (vs ++ drop (at + length vs) xs) (are_bytes-take at xs h)
    (are_bytes-append vs (drop (at + length vs) xs) k (are_bytes-drop (at + length vs) xs h))
