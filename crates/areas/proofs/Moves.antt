-- Moves of elements, and then writes, each as one write at the front, over any element type. Assumes nothing.
use Prim.Native.Nat.{ℕ, ◌+◌, ◌-◌, ◌≤◌}
use mathlib.Core.Path.{◌≡◌, sym, ap, ◌∙◌}
use mathlib.Core.List.{List, ◌++◌, append_assoc}
use native.Mathlib.Omega.{arith}
use lib.ListN.{length, take, drop, length-append, take-append-drop}
use lib.Seq.{slice, length-slice, length-take-le, drop-drop}
use Rattle.codec.specs.Parts.{part, put, moved_up, moved_down}
use Rattle.codec.proofs.PartLaws.{length_part, take-put_end, drop-put, put-append}
use Rattle.rows.proofs.Changes.{gap_filled}

module _ {A : Type 0} where
  -- elements moved up by as many places as vs has, and vs written into the gap
  pub gap_in_front : (xs vs : List A) (low high : ℕ) → low ≤ high → high + length vs ≤ length xs
      → put (moved_up xs low high (length vs)) low vs ≡ put xs 0 (take low xs ++ (vs ++ slice low high xs))
  gap_in_front xs vs low high h fits =
      let front : length (take low xs) ≡ low = length-take-le low xs (omega arith) in
      let mid : length (slice low high xs) ≡ high - low = length-slice low high xs (omega arith) in
      let long : 0 + length (take low xs ++ (vs ++ slice low high xs)) ≡ high + length vs = simp (length-append, front, mid) (omega arith) in
      let whole = take low xs ++ (vs ++ slice low high xs) in
      gap_filled xs vs low high (omega arith)
      ∙ sym (ap (λ (n : ℕ). whole ++ drop n xs) long ∙ simp append_assoc)

  -- elements brought to where they are
  pub moved_nowhere : (xs : List A) (at k : ℕ) → moved_down xs at at k ≡ xs
  moved_nowhere xs at k =
      rw (append_assoc, ← drop-drop k at xs, take-append-drop k (drop at xs)) (take-append-drop at xs)

  -- k elements brought down right behind those that were written at the front
  pub brought_behind : (xs front : List A) (at source k : ℕ) → length front ≡ at → at ≤ source → source + k ≤ length xs
      → moved_down (put xs 0 front) at source k ≡ put xs 0 (front ++ part source k xs)
  brought_behind xs front at source k e h fits =
      let ys = put xs 0 front in
      let ends : 0 + length front ≡ at = omega arith in
      let before : take at ys ≡ front = ap (λ (n : ℕ). take n ys) (sym ends) ∙ take-put_end xs 0 front (omega arith) in
      let from : drop source ys ≡ drop source xs = drop-put source xs 0 front (omega arith) (omega arith) in
      let rest : drop (at + k) ys ≡ drop (at + k) xs = drop-put (at + k) xs 0 front (omega arith) (omega arith) in
      let long : at + k ≡ 0 + length (front ++ part source k xs) = simp (length-append, length_part source k xs fits) (omega arith) in
      rw (before, from, rest) (ap (λ (n : ℕ). (front ++ part source k xs) ++ drop n xs) long)

  -- a write right behind those that were written at the front
  pub put-behind : (xs front vs : List A) (at : ℕ) → length front ≡ at → put (put xs 0 front) at vs ≡ put xs 0 (front ++ vs)
  put-behind xs front vs at e =
      let ends : at ≡ 0 + length front = omega arith in
      ap (λ (n : ℕ). put (put xs 0 front) n vs) ends ∙ put-append xs 0 front vs (omega arith)
