-- Where a descent ends and where it starts: in a leaf, and at the top of all leaves. Assumes nothing.
use Prim.Native.Nat.{ℕ, ◌+◌, ◌-◌, ◌*◌, ◌/◌, ◌^◌, ◌≤◌, ◌<◌, min}
use mathlib.Core.Path.{◌≡◌, sym, ◌∙◌, subst}
use mathlib.Core.List.{List}
use native.Mathlib.Omega.{arith}
use native.Mathlib.Nat.{mul-le-mul_left, pow-zero, zero-mul, zero-add}
use lib.ListN.{length, get_or}
use Rattle.model.specs.Shape.{leaves_of}
use Rattle.tree.specs.Levels.{inners_over, Room}
use Rattle.descent.specs.Ranges.{Cut, Between}
use Rattle.descent.specs.Descent.{Leaf, Down, Found, Counted}
use Rattle.tree.proofs.Leaves.{leaf_there, leaves-low, leaves-high}
use Rattle.descent.proofs.Counts.{count_none}
use Rattle.descent.proofs.Ranges.{count_in_leaf}
use Rattle.tree.proofs.Numbers.{leaf_in, leaf_closed, inners_le}
use Rattle.tree.proofs.Packings.{by_leaf, leaves_at}

-- ---- a leaf
module _ {d k : ℕ} {P : ℕ → Type 0} {first a : ℕ} (h : Leaf d k P first a) where
  pub leaf_few : a ≤ 65536
  leaf_few =
      let one : 1 ≤ d - 1 = omega (arith, h.order_low) in
      omega (arith, mul-le-mul_left a one, h.there, h.few)

  pub leaf_number : first ≤ 131072
  leaf_number = omega (arith, h.number, leaf_closed d h.order_low a, inners_le d h.order_low a, leaf_few)

  pub found_leaf : (at : ℕ → ℕ) {xs : List ℕ} {t j : ℕ} → Cut xs (at first) (min (d - 1) (k - a * (d - 1))) t j → Found at xs d k t a 1 (a * (d - 1) + j)
  found_leaf at {xs} {t} {j} cut = record {
    within = omega (arith, cut.upto, h.there);
    counts = λ keys e rising p bt.
        sym (count_in_leaf keys xs (d - 1) t a (at first) j (omega (arith, h.order_low)) rising
        (λ i l s.
        let at_leaf = leaves_at at d h.order_low keys xs (by_leaf at d h.order_low keys xs p) a i l s in
        subst (λ (x : ℕ). get_or xs (at x + i) 0 ≡ get_or keys (a * (d - 1) + i) 0) (sym h.number) at_leaf)
        (subst (λ (x : ℕ). Cut xs (at first) (min (d - 1) (x - a * (d - 1))) t j) (sym e) cut) bt);
  }

-- level 0 is one leaf
module _ {d k : ℕ} {P : ℕ → Type 0} {u under first a r : ℕ} (h : Down d k P 0 u under first a r) where
  pub down_one : r ≡ 1
  down_one = omega (arith, h.fits, pow-zero d, h.some)

  pub down_leaf : Leaf d k P first a
  down_leaf = record {
    order_low = h.order_low;
    order_high = h.order_high;
    few = h.few;
    number = h.number;
    there = omega (arith, rw down_one at h.there);
    reach = h.reach first (omega (arith, h.number, leaf_in d h.order_low a (a + r) (omega (arith, h.some))));
  }

  pub found_one : {at : ℕ → ℕ} {xs : List ℕ} {t c : ℕ} → Found at xs d k t a 1 c → Found at xs d k t a r c
  found_one f = rw down_one f

-- ---- the whole tree
module _ {d k : ℕ} {P : ℕ → Type 0} (h : Room d k P) (p : 0 < k) where
  pub down_top : {level u under : ℕ} → u ≡ d ^ level / d → under ≡ inners_over d level → leaves_of d k ≤ d ^ level
      → Down d k P level u under 0 0 (leaves_of d k)
  down_top {level} e f wide =
      record {
        order_low = h.order_low;
        order_high = h.order_high;
        few = h.few;
        unit_is = e;
        under_is = f;
        block = 0;
        border = sym (zero-mul (d ^ level));
        number = omega (arith, leaf_closed d h.order_low 0, inners_le d h.order_low 0);
        some = leaf_there d k 0 h.order_low (omega arith);
        fits = wide;
        there = rw zero-add (leaves-low d k h.order_low);
        reach = rw zero-add h.reach;
      }

  between-all : (keys : List ℕ) (t : ℕ) → length keys ≡ k → Between keys (d - 1) t 0 (leaves_of d k)
  between-all keys t e = record {
    some = leaf_there d k 0 h.order_low (omega arith);
    there = omega (arith, leaves-low d k h.order_low);
    below = λ i l. absurd (omega arith);
    above = λ i l q. absurd (omega (arith, leaves-high d k h.order_low));
  }

  pub counted_all : {at : ℕ → ℕ} {xs : List ℕ} {t c : ℕ} → Found at xs d k t 0 (leaves_of d k) c → Counted at xs d k t c
  counted_all {t = t} f =
      record { packed = λ keys len rising pk. f.counts keys len rising pk (between-all keys t len); within = f.within }

pub counted_none : {at : ℕ → ℕ} {xs : List ℕ} {d k t : ℕ} → k ≡ 0 → Counted at xs d k t 0
counted_none {t = t} e = record { packed = λ keys len rising pk. sym (count_none keys t (len ∙ e)); within = omega arith }
