-- What a move leaves, over any element type: its length, a part written at another place, and a move in a lent part, which is
-- one in the whole. Assumes nothing.
use Prim.Native.Nat.{ℕ, ◌+◌, ◌-◌, ◌≤◌}
use mathlib.Core.Path.{◌≡◌, sym, ap, ◌∙◌}
use mathlib.Core.List.{List, append_assoc}
use native.Mathlib.Omega.{arith}
use native.Mathlib.Nat.{add-zero, add_assoc}
use lib.ListN.{length, take, drop, length-append, length-drop}
use borrow.Rule.Slice.PartMut.{put_mid}
use lib.Seq.{paste, length-paste, slice, length-slice, length-take-le}
use Rattle.codec.specs.Parts.{part, put, moved_up, moved_down}
use Rattle.codec.proofs.PartLaws.{length_part, part_is_slice, part-part, put_within}

module _ {A : Type 0} where
  -- ---- lengths

  pub length_moved_up : (xs : List A) (low high by : ℕ) → low ≤ high → high + by ≤ length xs → length (moved_up xs low high by) ≡ length xs
  length_moved_up xs low high by h fits =
      let f : length (take (low + by) xs) ≡ low + by = length-take-le (low + by) xs (omega arith) in
      let m : length (slice low high xs) ≡ high - low = length-slice low high xs (omega arith) in
      let e : length (drop (high + by) xs) ≡ length xs - (high + by) = length-drop (high + by) xs in
      simp (length-append, f, m, e) (omega arith)

  pub length_moved_down : (xs : List A) (at source k : ℕ) → at ≤ source → source + k ≤ length xs → length (moved_down xs at source k) ≡ length xs
  length_moved_down xs at source k h fits =
      length-paste xs at (drop source xs) k (omega arith) (simp length-drop (omega arith))

  -- ---- a move is a part written at another place

  pub moved_up_put : (xs : List A) (low high by : ℕ) → low ≤ high → high ≤ length xs → moved_up xs low high by ≡ put xs (low + by) (part low (high - low) xs)
  moved_up_put xs low high by h fits =
      let e : low + (high - low) ≡ high = omega arith in
      let n : low + by + (high - low) ≡ high + by = omega arith in
      rw (length_part low (high - low) xs (omega arith), n, part_is_slice low (high - low) xs, e)

  pub moved_down_put : (xs : List A) (at source k : ℕ) → source + k ≤ length xs → moved_down xs at source k ≡ put xs at (part source k xs)
  moved_down_put xs at source k fits = rw (length_part source k xs fits) (append_assoc (take at xs) (part source k xs) (drop (at + k) xs))

  -- as the library's `copy_within` says it
  pub copied_up : (xs : List A) (low high by : ℕ) → low ≤ high → high ≤ length xs → paste xs (low + by) (drop low xs) (high - low) ≡ moved_up xs low high by
  copied_up xs low high by h fits =
      moved_down_put xs (low + by) low (high - low) (omega arith) ∙ sym (moved_up_put xs low high by h fits)

  -- ---- a lent part, `&mut xs[a..a + k]`, in which elements moved: they have moved in the whole

  -- a part of the part, written at another place of it
  pub part_copied : (a k : ℕ) (xs : List A) (at source n : ℕ) {ys : List A} → a + k ≤ length xs → at + n ≤ k → source + n ≤ k
      → ys ≡ put (part a k xs) at (part source n (part a k xs)) → put_mid a k xs ys ≡ put xs (a + at) (part (a + source) n xs)
  part_copied a k xs at source n h g l e =
      put_within a k xs at (part source n (part a k xs)) h (rw (length_part source n (part a k xs) (rw (length_part a k xs h) l)) g) e
      ∙ ap (put xs (a + at)) (part-part source n a k xs l)

  pub part_moved_up : (a k : ℕ) (xs : List A) (low high by : ℕ) {ys : List A} → a + k ≤ length xs → low ≤ high → high + by ≤ k
      → ys ≡ moved_up (part a k xs) low high by → put_mid a k xs ys ≡ moved_up xs (a + low) (a + high) by
  part_moved_up a k xs low high by h l g e =
      let len : length (part a k xs) ≡ k = length_part a k xs h in
      let n : a + high - (a + low) ≡ high - low = omega arith in
      part_copied a k xs (low + by) low (high - low) h (omega arith) (omega arith) (e ∙ moved_up_put (part a k xs) low high by l (omega arith))
      ∙ sym (moved_up_put xs (a + low) (a + high) by (omega arith) (omega arith) ∙ rw (n, add_assoc a low by))

  pub part_moved_down : (a k : ℕ) (xs : List A) (at source n : ℕ) {ys : List A} → a + k ≤ length xs → at ≤ source → source + n ≤ k
      → ys ≡ moved_down (part a k xs) at source n → put_mid a k xs ys ≡ moved_down xs (a + at) (a + source) n
  part_moved_down a k xs at source n h l g e =
      let len : length (part a k xs) ≡ k = length_part a k xs h in
      part_copied a k xs at source n h (omega arith) g (e ∙ moved_down_put (part a k xs) at source n (omega arith))
      ∙ sym (moved_down_put xs (a + at) (a + source) n (omega arith))

  -- the same where all of `&mut xs[a..e]` moved, by so many places
  pub whole-part_up : (a e by : ℕ) (xs : List A) {ys : List A} → a + by ≤ e → e ≤ length xs
      → ys ≡ moved_up (part a (e - a) xs) 0 (length (part a (e - a) xs) - by) by → put_mid a (e - a) xs ys ≡ moved_up xs a (e - by) by
  whole-part_up a e by xs h fits q =
      let len : length (part a (e - a) xs) ≡ e - a = length_part a (e - a) xs (omega arith) in
      let high : a + (e - a - by) ≡ e - by = omega arith in
      part_moved_up a (e - a) xs 0 (e - a - by) by (omega arith) (omega arith) (omega arith) (q ∙ ap (λ (n : ℕ). moved_up (part a (e - a) xs) 0 (n - by) by) len)
      ∙ rw (add-zero, high)

  pub whole-part_down : (a e by : ℕ) (xs : List A) {ys : List A} → a + by ≤ e → e ≤ length xs
      → ys ≡ moved_down (part a (e - a) xs) 0 by (length (part a (e - a) xs) - by) → put_mid a (e - a) xs ys ≡ moved_down xs a (a + by) (e - (a + by))
  whole-part_down a e by xs h fits q =
      let len : length (part a (e - a) xs) ≡ e - a = length_part a (e - a) xs (omega arith) in
      let n : e - a - by ≡ e - (a + by) = omega arith in
      part_moved_down a (e - a) xs 0 by (e - a - by) (omega arith) (omega arith) (omega arith) (q ∙ ap (λ (m : ℕ). moved_down (part a (e - a) xs) 0 by (m - by)) len)
      ∙ rw (add-zero, n)
