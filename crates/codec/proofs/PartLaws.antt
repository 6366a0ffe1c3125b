-- Laws of `put` and `part`, over any element type: lengths, what stands before, in and after what was written,
-- writes that follow one another, and a lent part that came back. Assumes nothing.
use Prim.Native.Nat.{ℕ, zero, suc, ◌+◌, ◌-◌, ◌≤◌, ◌<◌}
use mathlib.Core.Path.{◌≡◌, refl, sym, ap, ◌∙◌}
use mathlib.Core.List.{List, [], ◌∷◌, ◌++◌, append_assoc, append-nil}
use native.Mathlib.Omega.{arith}
use native.Mathlib.Numerals.{add-one}
use native.Mathlib.Nat.{zero-add, add-zero, suc-add, add_assoc}
use lib.ListN.{length, take, drop, get_or, set, replicate, length-append, length-drop, length-replicate, take-append-drop}
use lib.Seq.{length-take-le, get_or-take, get_or-drop, take-nil, take-append-le, drop-append-le, take-take, drop-drop, take-add, take_at, drop_at, set_split, drop-length}
use borrow.Rule.Slice.PartMut.{put_mid}
use Rattle.codec.specs.Parts.{zeros, part, put}

module _ {A : Type 0} where
  -- ---- parts

  pub length_part : (at k : ℕ) (xs : List A) → at + k ≤ length xs → length (part at k xs) ≡ k
  length_part at k xs h = length-take-le k (drop at xs) (simp length-drop (omega arith))

  -- the first at + k elements without the first at
  pub part_is_slice : (at k : ℕ) (xs : List A) → part at k xs ≡ drop at (take (at + k) xs)
  part_is_slice zero k xs = rw zero-add
  part_is_slice (suc at) k [] = take-nil k ∙ sym (rw (take-nil (suc at + k)))
  part_is_slice (suc at) k (x ∷ xs) = rw suc-add (part_is_slice at k xs)

  -- a part of a part
  pub part-part : (i j at k : ℕ) (xs : List A) → i + j ≤ k → part i j (part at k xs) ≡ part (at + i) j xs
  part-part i j at k xs h =
      part_is_slice i j (take k (drop at xs))
      ∙ rw (take-take (i + j) k (drop at xs) h, ← part_is_slice i j (drop at xs), drop-drop)

  pub part_of_take : (at k n : ℕ) (xs ys : List A) → at + k ≤ n → take n xs ≡ take n ys → part at k xs ≡ part at k ys
  part_of_take at k n xs ys h e =
      part_is_slice at k xs
      ∙ ap (drop at) (sym (take-take (at + k) n xs h) ∙ ap (take (at + k)) e ∙ take-take (at + k) n ys h)
      ∙ sym (part_is_slice at k ys)

  -- what is left of n times x
  pub drop_replicate : (k n : ℕ) (x : A) → drop k (replicate n x) ≡ replicate (n - k) x
  drop_replicate zero n x = let e : n ≡ n - 0 = omega arith in ap (λ (j : ℕ). replicate j x) e
  drop_replicate (suc k) zero x = let e : 0 ≡ 0 - suc k = omega arith in ap (λ (j : ℕ). replicate j x) e
  drop_replicate (suc k) (suc n) x = let e : n - k ≡ suc n - suc k = omega arith in drop_replicate k n x ∙ ap (λ (j : ℕ). replicate j x) e

  -- ---- what stands where after a write

  -- what was written, with all before it
  pub take-put_end : (xs : List A) (at : ℕ) (vs : List A) → at ≤ length xs → take (at + length vs) (put xs at vs) ≡ take at xs ++ vs
  take-put_end xs at vs h =
      rw (← append_assoc (take at xs) vs (drop (at + length vs) xs))
      (take_at (take at xs ++ vs) _ (at + length vs) (rw (length-append, length-take-le at xs h)))

  pub length-put : (xs : List A) (at : ℕ) (vs : List A) → at + length vs ≤ length xs → length (put xs at vs) ≡ length xs
  length-put xs at vs h =
      let l : length (take at xs) ≡ at = length-take-le at xs (omega arith) in
      simp (length-append, length-drop, l) (omega arith)

  pub take_put : (j : ℕ) (xs : List A) (at : ℕ) (vs : List A) → j ≤ at → at ≤ length xs → take j (put xs at vs) ≡ take j xs
  take_put j xs at vs h k = take-append-le j (take at xs) _ (rw (length-take-le at xs k) h) ∙ take-take j at xs h

  pub drop-put : (j : ℕ) (xs : List A) (at : ℕ) (vs : List A) → at + length vs ≤ j → at ≤ length xs → drop j (put xs at vs) ≡ drop j xs
  drop-put j xs at vs h k =
      let n = at + length vs in
      let e : j ≡ n + (j - n) = omega arith in
      let seam : drop n (put xs at vs) ≡ drop n xs =
      rw (← append_assoc (take at xs) vs (drop n xs)) (drop_at (take at xs ++ vs) (drop n xs) n (rw (length-append, length-take-le at xs k))) in
      rw e (sym (drop-drop (j - n) n (put xs at vs)) ∙ ap (drop (j - n)) seam ∙ drop-drop (j - n) n xs)

  -- a front that holds what was written, and a rest that does
  pub take-put-past : (j : ℕ) (xs : List A) (at : ℕ) (vs : List A) → at + length vs ≤ j → at ≤ length xs → take j (put xs at vs) ≡ put (take j xs) at vs
  take-put-past j xs at vs h k =
      let n = at + length vs in
      let e : n + (j - n) ≡ j = omega arith in
      ap (λ (m : ℕ). take m (put xs at vs)) (sym e)
      ∙ take-add n (j - n) (put xs at vs)
      ∙ rw (take-put_end xs at vs k, drop-put n xs at vs (omega arith) k, part_is_slice n (j - n) xs, e, take-take at j xs (omega arith)) (simp append_assoc)

  pub drop-put_ahead : (j : ℕ) (xs : List A) (at : ℕ) (vs : List A) → j + at ≤ length xs → drop j (put xs (j + at) vs) ≡ put (drop j xs) at vs
  drop-put_ahead j xs at vs h =
      drop-append-le j (take (j + at) xs) (vs ++ drop (j + at + length vs) xs) (rw (length-take-le (j + at) xs h) (omega arith))
      ∙ rw (← part_is_slice j at xs, drop-drop, add_assoc)

  -- the written stretch is read back, whole or in part
  pub part-put : (xs : List A) (at : ℕ) (vs : List A) → at ≤ length xs → part at (length vs) (put xs at vs) ≡ vs
  part-put xs at vs h = rw (drop_at (take at xs) (vs ++ drop (at + length vs) xs) at (length-take-le at xs h)) (take_at vs _ (length vs) refl)

  pub part-put_within : (i k : ℕ) (xs : List A) (at : ℕ) (vs : List A) → at ≤ length xs → i + k ≤ length vs → part (at + i) k (put xs at vs) ≡ part i k vs
  part-put_within i k xs at vs h g =
      sym (part-part i k at (length vs) (put xs at vs) g) ∙ ap (part i k) (part-put xs at vs h)

  pub part-put-before : (i k : ℕ) (xs : List A) (at : ℕ) (vs : List A) → i + k ≤ at → at ≤ length xs → part i k (put xs at vs) ≡ part i k xs
  part-put-before i k xs at vs h g =
      part_is_slice i k (put xs at vs) ∙ rw (take_put (i + k) xs at vs h g) (sym (part_is_slice i k xs))

  pub part-put-after : (i k : ℕ) (xs : List A) (at : ℕ) (vs : List A) → at + length vs ≤ i → at ≤ length xs → part i k (put xs at vs) ≡ part i k xs
  part-put-after i k xs at vs h g = ap (take k) (drop-put i xs at vs h g)

  pub get_d_put-before : (i : ℕ) (xs : List A) (at : ℕ) (vs : List A) (d : A) → i < at → at ≤ length xs → get_or (put xs at vs) i d ≡ get_or xs i d
  get_d_put-before i xs at vs d h g =
      sym (get_or-take at (put xs at vs) i d h) ∙ rw (take_put at xs at vs (omega arith) g) (get_or-take at xs i d h)

  pub get_d_put-after : (i : ℕ) (xs : List A) (at : ℕ) (vs : List A) (d : A) → at + length vs ≤ i → at ≤ length xs → get_or (put xs at vs) i d ≡ get_or xs i d
  get_d_put-after i xs at vs d h g =
      let first : (ys : List A) → get_or (drop i ys) 0 d ≡ get_or ys i d = λ ys. rw (get_or-drop i ys 0 d, add-zero) in
      sym (first (put xs at vs)) ∙ rw (drop-put i xs at vs h g) (first xs)

  -- ---- writes that change nothing, that are one store, or that follow one another

  pub put-part : (xs : List A) (at k : ℕ) → at + k ≤ length xs → put xs at (part at k xs) ≡ xs
  put-part xs at k h =
      rw (length_part at k xs h, ← drop-drop k at xs, take-append-drop k (drop at xs)) (take-append-drop at xs)

  pub put-nil : (xs : List A) (at : ℕ) → put xs at [] ≡ xs
  put-nil xs at = rw add-zero (take-append-drop at xs)

  pub put_whole : (xs vs : List A) → length xs ≡ length vs → put xs 0 vs ≡ vs
  put_whole xs vs e = rw (zero-add, ← e, drop-length) (append-nil vs)

  pub put_one : (xs : List A) (at : ℕ) (v : A) → at < length xs → put xs at (v ∷ []) ≡ set xs at v
  put_one xs at v h = rw add-one (sym (set_split xs at v h))

  -- a second write right behind the first
  pub put-append : (xs : List A) (at : ℕ) (us vs : List A) → at ≤ length xs → put (put xs at us) (at + length us) vs ≡ put xs at (us ++ vs)
  put-append xs at us vs h =
      rw (
        take-put_end xs at us h,
        drop-put (at + length us + length vs) xs at us (omega arith) h,
        length-append us vs,
        add_assoc at (length us) (length vs),
      )
      (simp append_assoc)

  -- one store, and a write right behind it
  pub put_cons : (xs : List A) (at : ℕ) (v : A) (vs : List A) → at < length xs → put (set xs at v) (at + 1) vs ≡ put xs at (v ∷ vs)
  put_cons xs at v vs h = rw (← put_one xs at v h) (put-append xs at (v ∷ []) vs (omega arith))

  -- ---- a part that was lent, `&mut xs[a..a + k]`, and came back

  pub put_back : (a k : ℕ) (xs : List A) {ys zs : List A} → ys ≡ zs → length zs ≡ k → put_mid a k xs ys ≡ put xs a zs
  put_back a k xs {ys} {zs} e l = rw (drop-drop, e, l)

  -- the callee wrote zs at place b of the part
  pub put_within : (a k : ℕ) (xs : List A) (b : ℕ) (zs : List A) {ys : List A} → a + k ≤ length xs → b + length zs ≤ k → ys ≡ put (part a k xs) b zs
      → put_mid a k xs ys ≡ put xs (a + b) zs
  put_within a k xs b zs {ys} h g e =
      let d = drop a xs in
      let n = b + length zs in
      let tail : drop (a + b + length zs) xs ≡ drop n (take k d) ++ drop k d =
      rw (add_assoc, ← drop-drop n a xs)
      (ap (drop n) (sym (take-append-drop k d)) ∙ drop-append-le n (take k d) (drop k d) (rw (length_part a k xs h) g)) in
      rw (e, take-take b k d (omega arith), take-add a b xs, tail) (simp append_assoc)

-- a part that was lent, `&mut xs[a..e]`, and came back filled with zeros
pub put-zeros : (a e : ℕ) (xs : List ℕ) {ys : List ℕ} → a ≤ e → e ≤ length xs → ys ≡ zeros (length (part a (e - a) xs)) → put_mid a (e - a) xs ys ≡ put xs a (zeros (e - a))
put-zeros a e xs h g q =
    put_back a (e - a) xs (q ∙ ap zeros (length_part a (e - a) xs (omega arith))) (length-replicate (e - a) 0)
