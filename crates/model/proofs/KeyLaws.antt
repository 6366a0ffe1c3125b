-- Keys at or before a time: how many they are, and that on rising keys they are the first ones. Assumes nothing.
use Prim.Native.Nat.{ℕ, zero, suc, ◌≤◌, ◌<◌}
use mathlib.Core.Path.{◌≡◌, refl}
use mathlib.Core.List.{List, [], ◌∷◌}
use mathlib.Core.Bool.{Bool, true, false, cond}
use native.Mathlib.Omega.{arith}
use lib.ListN.{length, get_or}
use lib.Dec.{leb}
use borrow.Author.Tests.{lt-leb, leb-true, leb-false}
use Rattle.model.specs.Tree.{Rising, keys_up_to}

pub keys_up_to_le : (keys : List ℕ) (t : ℕ) → keys_up_to keys t ≤ length keys
unfolding keys_up_to
keys_up_to_le [] t = omega arith
keys_up_to_le (x ∷ xs) t = by (keys_up_to_le xs t) (leb x t)
  where
    by : keys_up_to xs t ≤ length xs → (q : Bool) → cond q (suc (keys_up_to xs t)) (keys_up_to xs t) ≤ suc (length xs)
    by ih true = omega arith
    by ih false = omega arith

keys_up_to_none : (keys : List ℕ) (t : ℕ) → ((i : ℕ) → i < length keys → t < get_or keys i 0) → keys_up_to keys t ≡ 0
unfolding keys_up_to
keys_up_to_none [] t h = refl
keys_up_to_none (x ∷ xs) t h = rw (lt-leb x t (h 0 (omega arith))) (keys_up_to_none xs t (λ i g. h (suc i) (omega arith)))

-- ---- rising keys

rising_tail : (x : ℕ) (xs : List ℕ) → Rising (x ∷ xs) → Rising xs
rising_tail x xs up i j h l = up (suc i) (suc j) (omega arith) (omega arith)

rising_later : (x : ℕ) (xs : List ℕ) (t : ℕ) → Rising (x ∷ xs) → t < x → (i : ℕ) → i < length xs → t < get_or xs i 0
rising_later x xs t up h i l = omega (arith, up 0 (suc i) (omega arith) (omega arith))

pub keys-before : (keys : List ℕ) (t : ℕ) → Rising keys → (i : ℕ) → i < keys_up_to keys t → get_or keys i 0 ≤ t
unfolding keys_up_to
keys-before [] t up i h = absurd (omega arith)
keys-before (x ∷ xs) t up i h = by (keys-before xs t (rising_tail x xs up)) (leb x t) refl i h
  where
    by : ((i : ℕ) → i < keys_up_to xs t → get_or xs i 0 ≤ t) → (q : Bool) → leb x t ≡ q → (i : ℕ) → i < keys_up_to (x ∷ xs) t → get_or (x ∷ xs) i 0 ≤ t
    by ih true e zero g = leb-true _ _ e
    by ih true e (suc i) g = let l : suc i < suc (keys_up_to xs t) = rw e at g in ih i (omega arith)
    by ih false e i g =
        let l : i < keys_up_to xs t = rw e at g in
        absurd (omega (arith, keys_up_to_none xs t (rising_later x xs t up (leb-false _ _ e))))

pub keys_from : (keys : List ℕ) (t : ℕ) → Rising keys → (i : ℕ) → keys_up_to keys t ≤ i → i < length keys → t < get_or keys i 0
unfolding keys_up_to
keys_from [] t up i h l = absurd (omega arith)
keys_from (x ∷ xs) t up i h l = by (keys_from xs t (rising_tail x xs up)) (leb x t) refl i h l
  where
    by : ((i : ℕ) → keys_up_to xs t ≤ i → i < length xs → t < get_or xs i 0) → (q : Bool) → leb x t ≡ q
        → (i : ℕ) → keys_up_to (x ∷ xs) t ≤ i → i < suc (length xs) → t < get_or (x ∷ xs) i 0
    by ih true e zero g l = let k : suc (keys_up_to xs t) ≤ zero = rw e at g in absurd (omega arith)
    by ih true e (suc i) g l = let k : suc (keys_up_to xs t) ≤ suc i = rw e at g in ih i (omega arith) (omega arith)
    by ih false e zero g l = leb-false _ _ e
    by ih false e (suc i) g l = rising_later x xs t up (leb-false _ _ e) i (omega arith)
