-- What the code that writes needs to know of addresses: that they lie in the index, and which nodes they are.
-- Assumes nothing.
use Prim.Native.Nat.{ℕ, zero, suc, ◌+◌, ◌-◌, ◌*◌, ◌/◌, ◌%◌, ◌≤◌, ◌<◌, zero-le, suc-le-suc}
use mathlib.Core.Path.{◌≡◌, refl, sym, ap, ◌∙◌}
use mathlib.Core.Logic.{inl, inr, ⊎_elim}
use mathlib.Core.List.{List, [], ◌∷◌, ◌++◌, append-nil}
use mathlib.Core.Bool.{true, false}
use native.Mathlib.Omega.{arith}
use native.Mathlib.Nat.{mul-le-mul_right, mul-le-mul, le_trans, div-le_self}
use borrow.Author.Tests.{eq-eqb, ne_eqb}
use lib.ListN.{length, get_or, set, take, drop, length-drop, length-take, drop_of_length-le}
use lib.Seq.{take_all, drop-drop}
use borrow.Rule.Slice.PartMut.{put_mid}
use Rattle.codec.specs.Parts.{put}
use Rattle.model.specs.Shape.{valuation, cofactor, opens, host, padded}
use Rattle.model.specs.Numbering.{leaf_node, inner_node, node_word}
use Rattle.tree.specs.Levels.{full_nodes, Room}
use Rattle.tree.specs.Places.{place_of, Reached, Placed}
use Rattle.tree.specs.Append.{slot, with_separator, with_leaf, Needed}
use Rattle.tree.proofs.Orders.{le_or_lt}
use Rattle.tree.proofs.Valuations.{cofactor_odd}
use Rattle.tree.proofs.Numbers.{leaf_in, leaf_before, not_opened, leaf_closed, inners_le}
use Rattle.tree.proofs.Allotments.{opens-opened}
use Rattle.tree.proofs.Runs.{leaf_hosted}
use Rattle.tree.proofs.Leaves.{leaves_next}
use Rattle.tree.proofs.Hosts.{opens-none}
use Rattle.tree.proofs.Takers.{hosted}
use Rattle.tree.proofs.Parts.{length-padded}

pub word_fits : (n d : ℕ) → n ≤ 131073 → d ≤ 64 → node_word d n ≤ 131073 * 63
word_fits n d h k = mul-le-mul {n₂ = 131073} {m₂ = 63} h (omega arith)

-- nodes that follow one another are apart
pub placed : (d n len : ℕ) → n * (d - 1) ≤ len → Placed (node_word d) (d - 1) n len
placed d n len h = record {
  room = λ i l. omega (arith, mul-le-mul_right (d - 1) l);
  apart = λ i j l k ne. ⊎_elim (λ p. inl (less i j (⊎_elim (λ q. absurd (ne (omega arith))) (λ q. q) (le_or_lt j i)))) (λ q. inr (less j i q)) (le_or_lt i j);
}
  where
    less : (i j : ℕ) → i < j → node_word d i + (d - 1) ≤ node_word d j
    less i j l = omega (arith, mul-le-mul_right (d - 1) l)

module _ (d m : ℕ) (two : 2 ≤ d) (p : 0 < m) where
  pub cofactor_pos : 1 ≤ cofactor d m % d
  cofactor_pos = by (cofactor d m % d) refl
    where
      by : (x : ℕ) → cofactor d m % d ≡ x → 1 ≤ x
      by zero e = absurd (cofactor_odd d two m p e)
      by (suc x) e = suc-le-suc zero-le

  -- the leaf before, by whether this one opens a node
  pub last-opens : cofactor d m % d ≡ 1 → leaf_node d (m - 1) + 2 ≡ leaf_node d m
  unfolding opens
  last-opens e = omega (arith, leaf_before d two m p, opens-opened d two m (eq-eqb _ 1 e))

  pub last_other : (cofactor d m % d ≡ 1 → ⊥) → leaf_node d (m - 1) + 1 ≡ leaf_node d m
  unfolding opens
  last_other ne = omega (arith, leaf_before d two m p, not_opened d m (ne_eqb _ 1 ne))

  -- the open node's leaf, by the nodes between
  pub host-number : leaf_node d (host d m) + (cofactor d m % d - 1) * full_nodes d (valuation d m) ≡ leaf_node d m
  unfolding slot
  host-number = leaf_hosted d two m p

  pub host_pos : 0 < host d m
  host_pos = by (host d m) refl
    where
      by : (x : ℕ) → host d m ≡ x → 0 < x
      by zero e = absurd (let z : ◌≡◌ {A = ℕ} 0 1 = cc (opens-none d two, (hosted d two m p).opened_by) in omega arith)
      by (suc x) e = suc-le-suc zero-le

-- leaf m is needed: the nodes by its number
module _ (d : ℕ) (P : ℕ → Type 0) (m leaf : ℕ) (h : Needed d P m leaf) where
  pub leaf_small : leaf ≤ 131072
  leaf_small = omega (arith, h.number, leaf_closed d h.order_low m, inners_le d h.order_low m, h.few)

  -- a node up to the leaf's
  pub node_reach : {i : ℕ} → i ≤ leaf → P i
  node_reach {i} l = h.reach i (omega (arith, h.number, leaf_in d h.order_low m (m + 1) (omega arith)))

  module _ (p : 0 < m) where
    pub leaf_some : 1 ≤ leaf
    leaf_some = omega (arith, h.number, leaf_before d h.order_low m p)

    module _ (e : cofactor d m % d ≡ 1) where
      pub two-before : leaf - 2 ≡ leaf_node d (m - 1)
      two-before = omega (arith, h.number, last-opens d m h.order_low p e)

      pub leaf_two : 2 ≤ leaf
      leaf_two = omega (arith, h.number, last-opens d m h.order_low p e)

    module _ (e : 1 < cofactor d m % d) where
      pub one_before : leaf - 1 ≡ leaf_node d (m - 1)
      one_before = omega (arith, h.number, last_other d m h.order_low p (λ z. omega arith))

      -- the open node
      pub open_low : (cofactor d m % d - 1) * full_nodes d (valuation d m) ≤ leaf - 1
      open_low = omega (arith, h.number, host-number d m h.order_low p, leaf_before d h.order_low (host d m) (host_pos d m h.order_low p))

      pub open_is : leaf - 1 - (cofactor d m % d - 1) * full_nodes d (valuation d m) ≡ inner_node d (host d m)
      open_is = omega (arith, h.number, host-number d m h.order_low p)

      pub open_reach : P (inner_node d (host d m))
      open_reach = node_reach (omega (arith, open_is))

-- a node up to the leaf's, whose first word is r, lies in the index
pub node_inside : {d e len m leaf r i : ℕ} {starts : List ℕ} → Needed d (Reached d e starts len) m leaf → r ≡ place_of d e starts i → i ≤ leaf → r + (d - 1) ≤ len
node_inside {d} {m = m} {leaf = leaf} h at l = omega (arith, at, (node_reach d _ m leaf h l).inside)

-- one key more needs leaf k / (d - 1)
pub needed_next : (d k : ℕ) (P : ℕ → Type 0) (leaf : ℕ) → Room d (k + 1) P → leaf ≡ leaf_node d (k / (d - 1)) → Needed d P (k / (d - 1)) leaf
needed_next d k P leaf h e = record {
  order_low = h.order_low;
  order_high = h.order_high;
  few = le_trans (div-le_self k (d - 1)) (omega (arith, h.few));
  number = e;
  reach = rw (leaves_next d k h.order_low) at h.reach;
}

-- a new node written to the part that runs to the end
pub put_node : (a w v : ℕ) (xs : List ℕ) {ys : List ℕ} → 0 < w → a + w ≤ length xs → ys ≡ padded w (v ∷ []) ++ drop w (take (length xs - a) (drop a xs))
    → put_mid a (length xs - a) xs ys ≡ put xs a (padded w (v ∷ []))
put_node a w v xs {ys} p h e =
    let whole : take (length xs - a) (drop a xs) ≡ drop a xs = take_all (length xs - a) (drop a xs) (simp length-drop (omega arith)) in
    let none : drop (length xs - a) (drop a xs) ≡ [] = drop_of_length-le (drop a xs) {i = length xs - a} (simp length-drop (omega arith)) in
    let n : length (padded w (v ∷ [])) ≡ w = length-padded w (v ∷ []) (omega arith) in
    let f : ys ≡ padded w (v ∷ []) ++ drop (a + w) xs = e ∙ ap (λ (zs : List ℕ). padded w (v ∷ []) ++ drop w zs) whole ∙ ap (λ (zs : List ℕ). padded w (v ∷ []) ++ zs) (drop-drop w a xs) in
    ap (λ (zs : List ℕ). take a xs ++ (ys ++ zs)) none ∙ ap (λ (zs : List ℕ). take a xs ++ zs) (append-nil ys ∙ f) ∙ ap (λ (k : ℕ). take a xs ++ (padded w (v ∷ []) ++ drop (a + k) xs)) (sym n)

pub node_room : (a w : ℕ) (xs : List ℕ) → a + w ≤ length xs → w ≤ length (take (length xs - a) (drop a xs))
node_room a w xs h = simp (length-take, length-drop) (omega arith)

-- the cases of a new leaf
module _ (at : ℕ → ℕ) (d m : ℕ) (xs : List ℕ) where
  pub separator-own : (s : ℕ) → 0 < m → opens d m ≡ true → with_separator at d m s xs ≡ put xs (at (inner_node d m)) (padded (d - 1) (s ∷ []))
  unfolding with_separator
  separator-own s p o = rw (ne_eqb m 0 (λ e. omega arith), o)

  pub separator_other : (s : ℕ) → 0 < m → opens d m ≡ false → with_separator at d m s xs ≡ set xs (at (inner_node d (host d m)) + slot d m) s
  unfolding with_separator
  separator_other s p o = rw (ne_eqb m 0 (λ e. omega arith), o)

  pub leaf_first : (x : ℕ) → m ≡ 0 → with_leaf at d m x xs ≡ put xs (at (leaf_node d m)) (padded (d - 1) (x ∷ []))
  unfolding with_leaf with_separator
  leaf_first x e = rw (eq-eqb m 0 e)

  pub leaf_later : (x s : ℕ) → s ≡ get_or xs (at (leaf_node d (m - 1)) + (d - 2)) 0 → with_leaf at d m x xs ≡ put (with_separator at d m s xs) (at (leaf_node d m)) (padded (d - 1) (x ∷ []))
  unfolding with_leaf
  leaf_later x s e = rw e
