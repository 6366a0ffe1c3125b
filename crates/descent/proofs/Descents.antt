-- What the descent's calls ask of one another, and how what a child finds is what its parent finds. Here the
-- ranges of leaves meet the packed numbering. Assumes nothing.
use Prim.Native.Nat.{ℕ, zero, suc, ◌+◌, ◌-◌, ◌*◌, ◌/◌, ◌^◌, ◌≤◌, ◌<◌, min}
use mathlib.Core.Path.{◌≡◌, sym, ap, ap₂, ◌∙◌, subst}
use mathlib.Core.List.{List}
use native.Mathlib.Omega.{arith}
use native.Mathlib.Nat.{le_trans, mul-le-mul_right, mul-le-mul_left, mul_comm, pow-zero, pow-suc, one-le-pow}
use native.Mathlib.Nat.{le-div_iff_mul-le, div-lt_iff_lt-mul, div-eq_of_lt, mul-div_cancel}
use lib.ListN.{length, get_or}
use lib.Arith.{digits_div}
use Rattle.model.specs.Numbering.{nodes, leaf_node, inner_node}
use Rattle.model.specs.Tree.{Packed, Rising, keys_up_to}
use Rattle.tree.specs.Levels.{inners_over}
use Rattle.codec.specs.Search as search
use Rattle.descent.specs.Ranges.{Cut, Between}
use Rattle.descent.specs.Descent.{Node, Down, Found, child_node}
use Rattle.tree.proofs.Numbers.{leaf_in, nodes_mono, leaf_closed, inners_le}
use Rattle.tree.proofs.Runs.{leaf_child}
use Rattle.descent.proofs.Ranges.{between_child}
use Rattle.tree.proofs.Packings.{by_leaf, separators_at}

-- ---- the leaves below each word
module _ (d : ℕ) (two : 2 ≤ d) where
  -- level 0 has none
  pub unit_none : d ^ 0 / d ≡ 0
  unit_none = rw pow-zero (div-eq_of_lt (omega arith))

  pub unit_of : (l : ℕ) → d ^ suc l / d ≡ d ^ l
  unit_of l = rw pow-suc (mul-div_cancel (d ^ l) {n = d} (omega arith))

  -- one level below levels 1 and 2
  pub unit_low : (level : ℕ) → 0 < level → level ≤ 2 → level - 1 ≡ d ^ level / d / d
  unit_low zero p q = absurd (omega arith)
  unit_low (suc zero) p q = sym (rw (unit_of 0) unit_none)
  unit_low (suc (suc zero)) p q = sym (rw (unit_of 1) (unit_of 0 ∙ pow-zero d))
  unit_low (suc (suc (suc l))) p q = absurd (omega arith)

  -- a node over as many leaves as its level is wide uses all its words
  pub full_words : (u : ℕ) → 0 < u → (u * d - 1) / u ≡ d - 1
  full_words u pos =
      let n : d ≡ suc (d - 1) = omega arith in
      let e : u * d - 1 ≡ (d - 1) * u + (u - 1) = omega (arith, ap (λ (x : ℕ). u * x) n, mul_comm u (d - 1)) in
      rw e (digits_div (d - 1) {m = u} {r = u - 1} (omega arith))

-- ---- a node
module _ {d : ℕ} {P : ℕ → Type 0} {u under first r : ℕ} (h : Node d P u under first r) where
  pub node_words : (r - 1) / u < d
  node_words = (div-lt_iff_lt-mul {k = u} {x = r - 1} {y = d} h.unit).1 (omega (arith, h.fits, h.some, mul_comm u d))

  -- where the leaves are at most u there is none, and no word of it
  pub no_node : {f : ℕ → ℕ} {t : ℕ} → r ≤ u → search.Cut f ((r - 1) / u) t 0
  no_node q =
      let none : (r - 1) / u ≡ 0 = div-eq_of_lt (omega (arith, h.unit)) in
      record { upto = omega arith; before = λ l. absurd (omega arith); after = λ l. absurd (omega arith) }

-- ---- one level down from level suc l
module _ {d k : ℕ} {P : ℕ → Type 0} {l u under first a r : ℕ} (h : Down d k P (suc l) u under first a r) where
  unit : u ≡ d ^ l
  unit = h.unit_is ∙ unit_of d h.order_low l

  pos : 0 < u
  pos = rw unit (one-le-pow l d (omega (arith, h.order_low)))

  wide : d ^ suc l ≡ u * d
  wide = rw unit (pow-suc d l)

  under_is : under ≡ u + inners_over d l
  unfolding inners_over
  under_is = rw unit h.under_is

  pub under_low : u ≤ under
  under_low = omega (arith, under_is)

  pub leaves_few : a + r ≤ 65536
  leaves_few =
      let one : 1 ≤ d - 1 = omega (arith, h.order_low) in
      omega (arith, mul-le-mul_left (a + r - 1) one, times-less, h.some, h.few)
    where
      times-less : (a + r - 1) * (d - 1) < k
      times-less =
          let e : a + r ≡ a + r - 1 + 1 = omega (arith, h.some) in
          omega (arith, h.there, ap (λ (x : ℕ). x * (d - 1)) e)

  -- the first leaves of the children, by the first of all
  child-number : (j : ℕ) → j < d → child_node first under j ≡ leaf_node d (a + j * u)
  child-number zero q =
      let e : child_node first under 0 ≡ first = omega arith in
      e ∙ h.number ∙ ap (leaf_node d) (omega arith)
  child-number (suc j) q =
      let e : child_node first under (suc j) ≡ first + suc j * under + 1 = omega arith in
      rw unit
      (e ∙ ap₂ (λ (x y : ℕ). x + suc j * y + 1) (h.number ∙ ap (leaf_node d) h.border) h.under_is
      ∙ sym (leaf_child d h.order_low l h.block j (omega arith)) ∙ ap (λ (x : ℕ). leaf_node d (x + suc j * d ^ l)) (sym h.border))

  -- the node itself
  node-number : first + under + 1 ≡ leaf_node d (a + u)
  node-number =
      let e : a + 1 * u ≡ a + u = omega arith in
      omega (arith, rw e at (child-number 1 h.order_low))

  leaf-double : (m : ℕ) → leaf_node d m ≤ 2 * m
  leaf-double m = omega (arith, leaf_closed d h.order_low m, inners_le d h.order_low m)

  pub down_node : Node d P u under first r
  down_node =
      record {
        order_low = h.order_low;
        order_high = h.order_high;
        unit = pos;
        some = h.some;
        few = omega (arith, leaves_few);
        fits = omega (arith, h.fits, wide);
        small = λ more. omega (arith, node-number, leaf-double (a + u), leaves_few);
        reach = λ more.
            let in_all : leaf_node d (a + u) < nodes d (a + r) = leaf_in d h.order_low (a + u) (a + r) (omega arith) in
            h.reach (first + under) (omega (arith, node-number));
      }

  -- child j, one of as many as there are separators and one more
  module _ {j : ℕ} (upto : j ≤ (r - 1) / u) where
    pub child_inside : j * u < r
    child_inside = omega (arith, (le-div_iff_mul-le {k = u} {x = j} {y = r - 1} pos).0 upto, h.some)

    child-is : child_node first under j ≡ leaf_node d (a + j * u)
    child-is = child-number j (omega (arith, upto, node_words down_node))

    pub child_small : first + j * under + 1 ≤ 131073
    child_small = omega (arith, child-is, leaf-double (a + j * u), child_inside, leaves_few)

    pub down_child : {c v : ℕ} → c ≡ child_node first under j → v ≡ u / d → Down d k P l v (under - u) c (a + j * u) (min u (r - j * u))
    down_child e f =
        let last : ℕ = a + j * u + min u (r - j * u) in
        let past : ℕ = a + r - last in
        let le : last ≤ a + r = omega (arith, child_inside) in
        let sum : last + past ≡ a + r = omega arith in
        let mono : nodes d last ≤ nodes d (a + r) = rw sum at (nodes_mono d h.order_low last past) in
        record {
          order_low = h.order_low;
          order_high = h.order_high;
          few = h.few;
          unit_is = f ∙ ap (λ (x : ℕ). x / d) unit;
          under_is = omega (arith, under_is);
          block = h.block * d + j;
          border = rw unit (omega (arith, h.border, ap (λ (x : ℕ). h.block * x) (pow-suc d l)));
          number = e ∙ child-is;
          some = omega (arith, child_inside, pos);
          fits = omega (arith, unit);
          there = omega (arith, mul-le-mul_right (d - 1) le, h.there);
          reach = λ i q. h.reach i (le_trans q mono);
        }

  -- where j of the separators are at most t, what child j finds is what the node finds
  pub found_child : (at : ℕ → ℕ) {xs : List ℕ} {t j c : ℕ} → Cut xs (at (first + under)) ((r - 1) / u) t j → Found at xs d k t (a + j * u) (min u (r - j * u)) c
      → Found at xs d k t a r c
  found_child at {xs} {t} {j} {c} cut f = record { within = f.within; counts = counts }
    where
      counts : (keys : List ℕ) → length keys ≡ k → Rising keys → Packed at d keys xs → Between keys (d - 1) t a r → c ≡ keys_up_to keys t
      counts keys e rising p bt =
          f.counts keys e rising p
          (between_child keys xs (d - 1) t a r u (at (first + under)) j (omega (arith, h.order_low)) pos rising words cut bt)
        where
          at-l : (i : ℕ) → i < (r - 1) / d ^ l → i < d - 1
              → get_or xs (at (first + under) + i) 0 ≡ get_or keys ((a + d ^ l + i * d ^ l) * (d - 1) - 1) 0
          at-l i q b =
              let s : suc i * d ^ l ≤ r - 1 = (le-div_iff_mul-le {k = d ^ l} {x = suc i} {y = r - 1} (rw unit at pos)).0 q in
              let m : a + d ^ l + i * d ^ l + 1 ≤ a + r = omega (arith, h.some) in
              let there : (a + d ^ l + i * d ^ l) * (d - 1) < length keys = omega (arith, mul-le-mul_right (d - 1) m, bt.there) in
              let node : inner_node d (a + d ^ l) ≡ first + under = omega (arith, rw unit at node-number) in
              let w = separators_at at d h.order_low keys xs (by_leaf at d h.order_low keys xs p) l h.block i b in
              rw (← node) ((rw (← h.border) at w) there)

          words : (i : ℕ) → i < (r - 1) / u
              → get_or xs (at (first + under) + i) 0 ≡ get_or keys ((a + u + i * u) * (d - 1) - 1) 0
          words i q = rw unit (at-l i (rw unit at q) (omega (arith, node_words down_node)))

-- a level that is not 0
pub raised : {d k : ℕ} {P : ℕ → Type 0} {level u under first a r : ℕ} → 0 < level → Down d k P level u under first a r → Down d k P (suc (level - 1)) u under first a r
raised {d} {k} {P} {level} {u} {under} {first} {a} {r} up h =
    subst (λ (x : ℕ). Down d k P x u under first a r) {x = level} {y = suc (level - 1)} (omega arith) h
