-- A part of w words of a list that is written elsewhere, or there; new nodes. Assumes nothing.
use Prim.Native.Nat.{ℕ, suc, ◌+◌, ◌-◌, ◌≤◌, ◌<◌}
use mathlib.Core.Path.{◌≡◌, refl, sym, ap, ap₂, ◌∙◌}
use mathlib.Core.Logic.{◌⊎◌, ⊎_elim}
use mathlib.Core.List.{List, [], ◌∷◌, ◌++◌, append_assoc}
use native.Mathlib.Omega.{arith}
use lib.ListN.{length, set, take, drop, length-append, length-drop, length-set, length-replicate, take-append-drop}
use lib.Seq.{drop-set-lt, drop-set-add, take-set-le, take-set-lt, length-take-le, take-append-le, take_at, drop_at, drop-append-le, set_at}
use borrow.Rule.Slice.PartMut.{put_mid, same_len_mid}
use Rattle.codec.specs.Parts.{put, zeros}
use Rattle.codec.proofs.PartLaws.{drop-put}
use Rattle.model.specs.Shape.{padded}

module _ (w : ℕ) (xs : List ℕ) where
  pub part_set_other : (a p v : ℕ) → (a + w ≤ p) ⊎ (p < a) → take w (drop a (set xs p v)) ≡ take w (drop a xs)
  part_set_other a p v h = ⊎_elim after before h
    where
      before : p < a → take w (drop a (set xs p v)) ≡ take w (drop a xs)
      before l = rw (drop-set-lt a xs p v l)

      after : a + w ≤ p → take w (drop a (set xs p v)) ≡ take w (drop a xs)
      after l =
          let e : p ≡ a + (p - a) = omega arith in
          rw (e, drop-set-add a xs (p - a) v) (take-set-le w (drop a xs) (p - a) v (omega arith))

  pub part_set_same : (a j v : ℕ) → j < w → take w (drop a (set xs (a + j) v)) ≡ set (take w (drop a xs)) j v
  part_set_same a j v l = rw (drop-set-add a xs j v) (take-set-lt w (drop a xs) j v l)

  pub part-put-same : (a : ℕ) (vs : List ℕ) → length vs ≡ w → a ≤ length xs → take w (drop a (put xs a vs)) ≡ vs
  part-put-same a vs e l = rw (drop_at (take a xs) _ a (length-take-le a xs l)) (take_at vs _ w e)

  pub part-put_other : (a p : ℕ) (vs : List ℕ) → length vs ≡ w → p ≤ length xs → (a + w ≤ p) ⊎ (p + w ≤ a) → take w (drop a (put xs p vs)) ≡ take w (drop a xs)
  part-put_other a p vs e l h = ⊎_elim before after h
    where
      before : a + w ≤ p → take w (drop a (put xs p vs)) ≡ take w (drop a xs)
      before q =
          let front : (ys : List ℕ) → take w (drop a (take p xs ++ ys)) ≡ take w (drop a (take p xs)) = λ ys.
          rw (drop-append-le a (take p xs) ys (rw (length-take-le p xs l) (omega arith)))
          (take-append-le w (drop a (take p xs)) ys (rw (length-drop a (take p xs), length-take-le p xs l) (omega arith))) in
          front (vs ++ drop (p + length vs) xs) ∙ sym (front (drop p xs)) ∙ rw (take-append-drop p xs)

      after : p + w ≤ a → take w (drop a (put xs p vs)) ≡ take w (drop a xs)
      after q = rw (drop-put a xs p vs (omega arith) l)

-- one word more
pub padded_more : (w x : ℕ) (ys : List ℕ) → length ys < w → padded w (ys ++ (x ∷ [])) ≡ set (padded w ys) (length ys) x
padded_more w x ys h =
    let n : w - length ys ≡ suc (w - suc (length ys)) = omega arith in
    let l : w - length (ys ++ (x ∷ [])) ≡ w - suc (length ys) = rw length-append (omega arith) in
    rw (l, n) (append_assoc ys (x ∷ []) _ ∙ sym (set_at ys 0 _ x (length ys) refl))

pub length-padded : (w : ℕ) (ys : List ℕ) → length ys ≤ w → length (padded w ys) ≡ w
length-padded w ys h = simp (length-append, length-replicate) (omega arith)

-- a new node: its first word, and zeros in the part behind it
pub node_length : (w v : ℕ) (xs : List ℕ) {ys : List ℕ} → ys ≡ zeros (length (take (w - 1) (drop 1 (set xs 0 v)))) → length (put_mid 1 (w - 1) (set xs 0 v) ys) ≡ length xs
node_length w v xs {ys} e = same_len_mid 1 (w - 1) (set xs 0 v) ys (ap length e ∙ length-replicate {A = ℕ} _ 0) ∙ length-set xs 0 v

pub node_is : (w v : ℕ) (xs : List ℕ) {ys : List ℕ} → 0 < w → w ≤ length xs → ys ≡ zeros (length (take (w - 1) (drop 1 (set xs 0 v))))
    → put_mid 1 (w - 1) (set xs 0 v) ys ≡ padded w (v ∷ []) ++ drop w xs
node_is w v [] p l e = absurd (omega arith)
node_is w v (x ∷ xs) {ys} p l e =
    let n : suc (w - 1) ≡ w = omega arith in
    ap₂ (λ (zs : List ℕ) (i : ℕ). v ∷ (zs ++ drop i (x ∷ xs))) (e ∙ ap zeros (length-take-le (w - 1) xs (omega arith))) n
