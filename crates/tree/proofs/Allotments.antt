-- The nodes in the order of allocation, whatever they hold: leaf m is node leaf_node d m, and the node that it
-- opens is the one before. Assumes nothing.
use Prim.Native.Nat.{ℕ, zero, suc, ◌+◌, ◌-◌, ◌≤◌, ◌<◌}
use mathlib.Core.Path.{◌≡◌, refl, ◌∙◌}
use mathlib.Core.Logic.{◌⊎◌, inl, inr, ⊎_elim}
use mathlib.Core.List.{List, [], ◌∷◌, ◌++◌}
use mathlib.Core.Bool.{Bool, true, false, cond}
use native.Mathlib.Omega.{arith}
use native.Mathlib.Nat.{le_refl, add-zero, add-suc}
use lib.ListN.{length, get_or, length-append, get_or-append}
use lib.Seq.{get_or_at, get_or-append-add}
use Rattle.model.specs.Shape.{opens}
use Rattle.model.specs.Numbering.{opened, nodes, leaf_node, inner_node}
use Rattle.model.specs.Tree.{allotted}
use Rattle.tree.proofs.Orders.{le_or_lt}
use Rattle.tree.proofs.Numbers.{leaf_in, nodes_mono, opened_le}

module _ (d : ℕ) (two : 2 ≤ d) where
  pub opens-opened : (m : ℕ) → opens d m ≡ true → opened d m ≡ 1
  unfolding opened
  opens-opened m o = rw o

  pub inner_node_lem : (m : ℕ) → opens d m ≡ true → inner_node d m ≡ nodes d m
  unfolding leaf_node
  inner_node_lem m o = omega (arith, opens-opened m o)

  opened-opens : (m : ℕ) → 0 < opened d m → opens d m ≡ true
  unfolding opened
  opened-opens m h = by (opens d m) h
    where
      by : (c : Bool) → 0 < cond c 1 0 → c ≡ true
      by true p = refl
      by false p = absurd (omega arith)

  -- every node is a leaf or was opened by one
  pub node_cases : (n i : ℕ) → i < nodes d n → (m : ℕ) × ((m < n) × ((i ≡ leaf_node d m) ⊎ ((opens d m ≡ true) × (i ≡ inner_node d m))))
  unfolding nodes leaf_node
  node_cases zero i h = absurd (omega arith)
  node_cases (suc n) i h = ⊎_elim mine (λ q. earlier (node_cases n i q)) (le_or_lt (nodes d n) i)
    where
      earlier : (m : ℕ) × ((m < n) × ((i ≡ leaf_node d m) ⊎ ((opens d m ≡ true) × (i ≡ inner_node d m)))) → (m : ℕ) × ((m < suc n) × ((i ≡ leaf_node d m) ⊎ ((opens d m ≡ true) × (i ≡ inner_node d m))))
      earlier c = (c.0, (omega (arith, c.1.0), c.1.1))

      mine : nodes d n ≤ i → (m : ℕ) × ((m < suc n) × ((i ≡ leaf_node d m) ⊎ ((opens d m ≡ true) × (i ≡ inner_node d m))))
      mine l = (n, (le_refl (suc n), ⊎_elim (λ p. inl (omega arith)) (λ q. inr (opened-opens n (omega arith), omega (arith, opened_le d two n))) (le_or_lt (nodes d n + opened d n) i)))

  module _ (inner leaf : ℕ → List ℕ) where
    pub allotted-length : (m : ℕ) → length (allotted d inner leaf m) ≡ nodes d m
    unfolding allotted nodes opened
    allotted-length zero = refl
    allotted-length (suc m) = by (opens d m) (allotted-length m)
      where
        by : (c : Bool) → length (allotted d inner leaf m) ≡ nodes d m → length (allotted d inner leaf m ++ (cond c (inner m ∷ []) [] ++ (leaf m ∷ []))) ≡ suc (nodes d m + cond c 1 0)
        by true ih = rw length-append (omega arith)
        by false ih = rw length-append (omega arith)

    -- a node once allotted keeps its number
    allotted-keeps : (n k i : ℕ) → i < nodes d n → get_or (allotted d inner leaf (n + k)) i [] ≡ get_or (allotted d inner leaf n) i []
    unfolding allotted
    allotted-keeps n zero i h = rw add-zero
    allotted-keeps n (suc k) i h = rw add-suc (get_or-append (allotted d inner leaf (n + k)) _ [] i (omega (arith, allotted-length (n + k), nodes_mono d two n k)) ∙ allotted-keeps n k i h)

    allotted-kept : (m n i : ℕ) → m < n → i < nodes d (suc m) → get_or (allotted d inner leaf n) i [] ≡ get_or (allotted d inner leaf (suc m)) i []
    allotted-kept m n i l h =
        let e : suc m + (n - suc m) ≡ n = omega arith in
        rw e at (allotted-keeps (suc m) (n - suc m) i h)

    leaf_last : (m : ℕ) → get_or (allotted d inner leaf (suc m)) (leaf_node d m) [] ≡ leaf m
    unfolding allotted leaf_node opened
    leaf_last m = by (opens d m) (allotted-length m)
      where
        by : (c : Bool) → length (allotted d inner leaf m) ≡ nodes d m → get_or (allotted d inner leaf m ++ (cond c (inner m ∷ []) [] ++ (leaf m ∷ []))) (nodes d m + cond c 1 0) [] ≡ leaf m
        by true e = rw (← e) (get_or-append-add (allotted d inner leaf m) (inner m ∷ leaf m ∷ []) 1 [])
        by false e = rw (← e) (get_or-append-add (allotted d inner leaf m) (leaf m ∷ []) 0 [])

    inner_last : (m : ℕ) → opens d m ≡ true → get_or (allotted d inner leaf (suc m)) (nodes d m) [] ≡ inner m
    unfolding allotted
    inner_last m o = rw o (get_or_at (allotted d inner leaf m) (inner m) _ [] (nodes d m) (allotted-length m))

    pub allotted_leaf : (m n : ℕ) → m < n → get_or (allotted d inner leaf n) (leaf_node d m) [] ≡ leaf m
    allotted_leaf m n l = allotted-kept m n (leaf_node d m) l (leaf_in d two m (suc m) (le_refl (suc m))) ∙ leaf_last m

    pub allotted_inner : (m n : ℕ) → m < n → opens d m ≡ true → get_or (allotted d inner leaf n) (inner_node d m) [] ≡ inner m
    allotted_inner m n l o =
        rw (inner_node_lem m o) (allotted-kept m n (nodes d m) l (omega (arith, leaf_in d two m (suc m) (le_refl (suc m)), inner_node_lem m o)) ∙ inner_last m o)
