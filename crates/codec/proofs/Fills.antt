-- Filling with zeros, bytes or words, from the front on: one place, a stretch, the two ends. Assumes nothing.
use Prim.Native.Nat.{ℕ, ◌+◌, ◌-◌, ◌≤◌, ◌<◌}
use mathlib.Core.Path.{◌≡◌, refl, sym, ap, ◌∙◌}
use mathlib.Core.List.{List, ◌++◌, append_assoc, append-nil}
use native.Mathlib.Omega.{arith}
use lib.ListN.{length, take, drop, set, length-set, length-replicate, replicate-append-replicate, drop_of_length-le}
use lib.Seq.{length-take-le, take_at, drop_at, drop-drop}
use Rattle.codec.specs.Parts.{zeros, put}
use Rattle.codec.proofs.PartLaws.{length-put, put_one, drop_replicate}

-- s is s₀ with the first i places filled
abbrev pub FilledTo : List ℕ → List ℕ → ℕ → Type 0
FilledTo s₀ s i = (i ≤ length s) × ((length s ≡ length s₀) × (s ≡ zeros i ++ drop i s₀))

zeros_join : (i j n : ℕ) → i + j ≡ n → zeros i ++ zeros j ≡ zeros n
zeros_join i j n e = replicate-append-replicate i j 0 ∙ ap zeros e

-- ---- further

-- no place
pub filled_none : (s₀ : List ℕ) (i : ℕ) → i ≡ 0 → FilledTo s₀ s₀ i
filled_none s₀ i e = rw e (omega arith, (refl, refl))

-- what is filled, up to any place of it
filled-front : (s₀ : List ℕ) (i at : ℕ) {s : List ℕ} → FilledTo s₀ s i → at ≤ i → take at s ≡ zeros at
filled-front s₀ i at {s} f h =
    let z : zeros at ++ zeros (i - at) ≡ zeros i = zeros_join at (i - at) i (omega arith) in
    let parts : s ≡ zeros at ++ (zeros (i - at) ++ drop i s₀) = f.1.1 ∙ rw (← z) (append_assoc (zeros at) (zeros (i - at)) (drop i s₀)) in
    ap (take at) parts ∙ take_at (zeros at) (zeros (i - at) ++ drop i s₀) at (length-replicate at 0)

-- what is not, from any place of it on
filled_rest : (s₀ : List ℕ) (i n : ℕ) {s : List ℕ} → FilledTo s₀ s i → i ≤ n → drop n s ≡ drop n s₀
filled_rest s₀ i n {s} f h =
    let e : n ≡ i + (n - i) = omega arith in
    let here : drop i s ≡ drop i s₀ = ap (drop i) f.1.1 ∙ drop_at (zeros i) (drop i s₀) i (length-replicate i 0) in
    rw e (sym (drop-drop (n - i) i s) ∙ ap (drop (n - i)) here ∙ drop-drop (n - i) i s₀)

-- k zeros, behind what is filled or over its end
pub filled_put : (s₀ : List ℕ) (i at k : ℕ) {s : List ℕ} → FilledTo s₀ s i → at ≤ i → i ≤ at + k → at + k ≤ length s → FilledTo s₀ (put s at (zeros k)) (at + k)
filled_put s₀ i at k {s} f h g l =
    let n : length (zeros k) ≡ k = length-replicate k 0 in
    let m : length (put s at (zeros k)) ≡ length s = length-put s at (zeros k) (omega arith) in
    let tail = drop (at + k) s₀ in
    let joined : zeros at ++ (zeros k ++ tail) ≡ zeros (at + k) ++ tail = sym (append_assoc (zeros at) (zeros k) tail) ∙ rw (zeros_join at k (at + k) refl) in
    (omega arith, (m ∙ f.1.0, rw (n, filled-front s₀ i at f h, filled_rest s₀ i (at + k) f g) joined))

-- one place, the same
pub filled_set : (s₀ : List ℕ) (i at : ℕ) {s : List ℕ} → FilledTo s₀ s i → at ≤ i → i ≤ at + 1 → at < length s → FilledTo s₀ (set s at 0) (at + 1)
filled_set s₀ i at {s} f h g l = rw (← put_one s at 0 l) (filled_put s₀ i at 1 f h g (omega arith))

-- ---- all

pub filled_all : (s₀ : List ℕ) (i : ℕ) {s : List ℕ} → FilledTo s₀ s i → length s ≤ i → s ≡ zeros (length s₀)
filled_all s₀ i f h =
    let e : i ≡ length s₀ = omega arith in
    f.1.1 ∙ rw (e, drop_of_length-le s₀ {i = length s₀} (omega arith)) (append-nil (zeros (length s₀)))

-- the first k places and the last k, which meet or overlap
pub filled_ends : (s₀ : List ℕ) (at k : ℕ) → at + k ≡ length s₀ → at ≤ k → put (put s₀ 0 (zeros k)) at (zeros k) ≡ zeros (length s₀)
filled_ends s₀ at k n h =
    let first : FilledTo s₀ (put s₀ 0 (zeros k)) (0 + k) = filled_put s₀ 0 0 k (filled_none s₀ 0 refl) (omega arith) (omega arith) (omega arith) in
    let m : length (put s₀ 0 (zeros k)) ≡ length s₀ = first.1.0 in
    let second : FilledTo s₀ (put (put s₀ 0 (zeros k)) at (zeros k)) (at + k) = filled_put s₀ (0 + k) at k first (omega arith) (omega arith) (omega arith) in
    filled_all s₀ (at + k) second (rw second.1.0 (omega arith))

-- three places one by one, some of which may be the same
pub filled-three : (s₀ : List ℕ) (i j k : ℕ) → i ≡ 0 → j ≤ 1 → j ≤ k → k ≤ j + 1 → k + 1 ≡ length s₀ → set (set (set s₀ i 0) j 0) k 0 ≡ zeros (length s₀)
filled-three s₀ i j k first low mid high n =
    let a : FilledTo s₀ (set s₀ i 0) (i + 1) = filled_set s₀ 0 i (filled_none s₀ 0 refl) (omega arith) (omega arith) (omega arith) in
    let b : FilledTo s₀ (set (set s₀ i 0) j 0) (j + 1) = filled_set s₀ (i + 1) j a (omega arith) (omega arith) (simp length-set (omega arith)) in
    let c : FilledTo s₀ (set (set (set s₀ i 0) j 0) k 0) (k + 1) = filled_set s₀ (j + 1) k b (omega arith) (omega arith) (simp length-set (omega arith)) in
    filled_all s₀ (k + 1) c (simp length-set (omega arith))

-- the last k places, from any of them on
ends_rest : (s₀ : List ℕ) (i at k : ℕ) → at + k ≡ length s₀ → at ≤ i → drop i (put s₀ at (zeros k)) ≡ zeros (k - (i - at))
ends_rest s₀ i at k n h =
    let xs = put s₀ at (zeros k) in
    let len : length (zeros k) ≡ k = length-replicate k 0 in
    let ends : xs ≡ take at s₀ ++ zeros k = rw (len, drop_of_length-le s₀ {i = at + k} (omega arith), append-nil) in
    let last : drop at xs ≡ zeros k = ap (drop at) ends ∙ drop_at (take at s₀) (zeros k) at (length-take-le at s₀ (omega arith)) in
    let e : i ≡ at + (i - at) = omega arith in
    ap (λ (j : ℕ). drop j xs) e ∙ sym (drop-drop (i - at) at xs) ∙ ap (drop (i - at)) last ∙ drop_replicate (i - at) k 0

-- the first i places, where the last k were filled before
pub filled-last : (s₀ : List ℕ) (i at k : ℕ) {s : List ℕ} → FilledTo (put s₀ at (zeros k)) s i → at + k ≡ length s₀ → at ≤ i → s ≡ zeros (length s₀)
filled-last s₀ i at k {s} f n h =
    let len : length (zeros k) ≡ k = length-replicate k 0 in
    let m : length (put s₀ at (zeros k)) ≡ length s₀ = length-put s₀ at (zeros k) (omega arith) in
    f.1.1 ∙ rw (ends_rest s₀ i at k n h) (zeros_join i (k - (i - at)) (length s₀) (omega arith))
