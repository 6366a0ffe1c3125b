-- `Seen` has one proof at most, so that a struct may hold it as a ghost field: of two nodes that have words not each ends before
-- the other begins. Assumes nothing.
use Rattle.std.specs.Prelude.{ℕ, ◌+◌, ◌-◌, ◌≤◌, ◌<◌, ◌⊎◌, List}
use mathlib.Core.Path.{ap}
use mathlib.Core.Logic.{inl, inr}
use native.Mathlib.Bridge.{le_prop}
use native.Mathlib.Omega.{arith}
use denote.Struct.Props.{props}
use Rattle.tree.specs.Places.{Placed, Laid, Seen}

-- of two facts that exclude each other
either-prop : {A B : Type 0} → IsProp A → IsProp B → (A → B → ⊥) → IsProp (A ⊎ B)
either-prop p q both (inl x) (inl y) = ap inl (p x y)
either-prop p q both (inl x) (inr y) = absurd (both x y)
either-prop p q both (inr x) (inl y) = absurd (both y x)
either-prop p q both (inr x) (inr y) = ap inr (q x y)

Placed-prop : (at : ℕ → ℕ) (w n len : ℕ) → 1 ≤ w → IsProp (Placed at w n len)
Placed-prop at w n len some =
    let apart : (i j : ℕ) → IsProp ((at i + w ≤ at j) ⊎ (at j + w ≤ at i)) = λ i j. either-prop le_prop le_prop (λ p q. omega arith) in
    hlevel (props, apart)

Laid-prop : (d e : ℕ) (starts : List ℕ) (n len : ℕ) → 2 ≤ d → IsProp (Laid d e starts n len)
Laid-prop d e starts n len two =
    let placed : (at : ℕ → ℕ) → IsProp (Placed at (d - 1) n len) = λ at. Placed-prop at (d - 1) n len (omega arith) in
    hlevel (props, placed)

pub Seen-prop : (d e : ℕ) (starts : List ℕ) (words len : ℕ) → IsProp (Seen d e starts words len)
Seen-prop d e starts words len x y =
    let laid : (n : ℕ) → 0 < e → IsProp (Laid d e starts n len) = λ n some. Laid-prop d e starts n len (x.low some) in
    let one : IsProp (Seen d e starts words len) = hlevel (props, laid) in
    one x y
