-- No two nodes have one number. Assumes nothing.
use Prim.Native.Nat.{ℕ, suc, ◌≤◌, ◌<◌}
use mathlib.Core.Path.{◌≡◌, ap}
use mathlib.Core.Logic.{⊎_elim}
use mathlib.Core.Bool.{true}
use native.Mathlib.Omega.{arith}
use native.Mathlib.Nat.{le_antisymm}
use Rattle.model.specs.Shape.{opens}
use Rattle.model.specs.Numbering.{nodes, leaf_node, inner_node}
use Rattle.tree.proofs.Orders.{le_or_lt}
use Rattle.tree.proofs.Numbers.{leaf_in}
use Rattle.tree.proofs.Allotments.{opens-opened}

module _ (d : ℕ) (two : 2 ≤ d) where
  nodes-leaf : (m : ℕ) → nodes d m ≤ leaf_node d m
  unfolding leaf_node
  nodes-leaf m = omega arith

  pub opened_leaf : (m : ℕ) → opens d m ≡ true → leaf_node d m ≡ suc (nodes d m)
  unfolding leaf_node
  opened_leaf m o = omega (arith, opens-opened d two m o)

  pub leaf_apart : (m n : ℕ) → (m ≡ n → ⊥) → leaf_node d m ≡ leaf_node d n → ⊥
  leaf_apart m n h e = ⊎_elim (λ p. ⊎_elim (λ q. h (omega arith)) (λ q. omega (arith, leaf_in d two m n q, nodes-leaf n)) (le_or_lt n m)) (λ q. omega (arith, leaf_in d two n m q, nodes-leaf m)) (le_or_lt m n)

  pub inner_leaf : (m n : ℕ) → opens d m ≡ true → inner_node d m ≡ leaf_node d n → ⊥
  inner_leaf m n o e = ⊎_elim
      (λ p. ⊎_elim
      (λ q. omega (arith, ap (leaf_node d) (le_antisymm p q), opened_leaf m o))
      (λ q. omega (arith, leaf_in d two m n q, nodes-leaf n))
      (le_or_lt n m))
      (λ q. omega (arith, leaf_in d two n m q, opened_leaf m o))
      (le_or_lt m n)

  pub inner_apart : (m n : ℕ) → opens d m ≡ true → opens d n ≡ true → (m ≡ n → ⊥) → inner_node d m ≡ inner_node d n → ⊥
  inner_apart m n o k h e = leaf_apart m n h (omega (arith, opened_leaf m o, opened_leaf n k))

  pub inner_in : (m n : ℕ) → m < n → inner_node d m < nodes d n
  inner_in m n l = omega (arith, leaf_in d two m n l)
