-- The two ways in which nodes are placed: one stretch, and extents. Assumes nothing.
use Prim.Native.Nat.{ℕ, suc, ◌+◌, ◌-◌, ◌*◌, ◌/◌, ◌%◌, ◌≤◌, ◌<◌}
use mathlib.Core.Path.{◌≡◌, refl, ap, ◌∙◌}
use mathlib.Core.Logic.{◌⊎◌, inl, inr, ⊎_elim}
use mathlib.Core.List.{List}
use native.Mathlib.Omega.{arith}
use native.Mathlib.Nat.{add-sub_cancel_left, le_trans, mul-le-mul_right, mod-lt, le-div_iff_mul-le, div-add-mod'}
use lib.ListN.{length, get_or, take, drop, length-drop, length-replicate}
use lib.Seq.{length-take-le, drop-drop}
use borrow.Rule.Slice.PartMut.{put_mid}
use Rattle.codec.specs.Parts.{put, zeros}
use lib.Dec.{eqb}
use borrow.Author.Tests.{eq-eqb, ne_eqb, eqb-true, eqb-false}
use mathlib.Core.Bool.{Bool, true, false}
use Rattle.model.specs.Numbering.{node_word}
use Rattle.tree.specs.Places.{place_of, Reached, Placed, Laid, extents_of, ExtentsFit}
use Rattle.model.specs.Tree.{nodes_of}
use Rattle.tree.specs.Levels.{Room, Stretch}
use Rattle.tree.proofs.Rooms.{placed}
use Rattle.tree.proofs.Orders.{le_or_lt}

pub reached_wide : {d e len len' k : ℕ} {starts : List ℕ} → Reached d e starts len k → len ≤ len' → Reached d e starts len' k
reached_wide h l = record { listed = h.listed; inside = le_trans h.inside l }

module _ (d e : ℕ) (starts : List ℕ) where
  pub place_stretch : (k : ℕ) → e ≡ 0 → place_of d e starts k ≡ node_word d k
  unfolding place_of
  place_stretch k z = rw (eq-eqb e 0 z)

  pub place_extent : (k : ℕ) → (e ≡ 0 → ⊥) → place_of d e starts k ≡ get_or starts (k / e) 0 + node_word d (k % e)
  unfolding place_of
  place_extent k ne = rw (ne_eqb e 0 ne)

-- zeros written to a part of w words
pub clear_part : (a w : ℕ) (xs : List ℕ) {ys : List ℕ} → a + w ≤ length xs → ys ≡ zeros (length (take (a + w - a) (drop a xs))) → put_mid a (a + w - a) xs ys ≡ put xs a (zeros w)
clear_part a w xs {ys} h e =
    let k : a + w - a ≡ w = add-sub_cancel_left a w in
    let n : length (take w (drop a xs)) ≡ w = length-take-le w (drop a xs) (simp length-drop (omega arith)) in
    let z : ys ≡ zeros w = (rw k at e) ∙ ap zeros n in
    rw (k, z, drop-drop, length-replicate)

-- ---- one stretch

module _ (d n len : ℕ) (starts : List ℕ) (long : n * (d - 1) ≤ len) where
  pub reached_stretch : (i : ℕ) → i < n → Reached d 0 starts len i
  reached_stretch i l = record { listed = λ p. absurd (omega arith); inside = rw (place_stretch d 0 starts i refl) (omega (arith, mul-le-mul_right (d - 1) l)) }

  pub placed_stretch : Placed (place_of d 0 starts) (d - 1) n len
  unfolding place_of
  placed_stretch = placed d n len long

  pub laid_stretch : Laid d 0 starts n len
  laid_stretch = record { reach = reached_stretch; placed = placed_stretch }

-- ---- extents

-- node k is in extent k / e, at place k % e there
module _ (d e : ℕ) (starts : List ℕ) (n len : ℕ) (some : 0 < e) (fit : ExtentsFit (node_word d e) starts (extents_of e n) len) where
  w : ℕ
  w = d - 1

  at : ℕ → ℕ
  at = place_of d e starts

  is : (k : ℕ) → place_of d e starts k ≡ get_or starts (k / e) 0 + node_word d (k % e)
  is k = place_extent d e starts k (λ z. omega arith)

  extent-in : (k : ℕ) → k < n → k / e < extents_of e n
  extent-in k l = (le-div_iff_mul-le {k = e} {x = suc (k / e)} {y = n + (e - 1)} some).1 (omega (arith, div-add-mod' k e, mod-lt k {m = e} some))

  -- a node ends within its extent
  node-ends : (k : ℕ) → k % e * (d - 1) + (d - 1) ≤ e * (d - 1)
  node-ends k = omega (arith, mul-le-mul_right (d - 1) (mod-lt k {m = e} some))

  pub reached_extents : (k : ℕ) → k < n → Reached d e starts len k
  reached_extents k l = record {
    listed = λ p. le_trans (extent-in k l) fit.listed;
    inside = omega (arith, is k, fit.inside (k / e) (extent-in k l), node-ends k);
  }

  -- two nodes of one extent stand at different places there
  one-extent : (i j : ℕ) → i / e ≡ j / e → (i ≡ j → ⊥) → i % e < j % e ⊎ j % e < i % e
  one-extent i j q ne = ⊎_elim (λ p. ⊎_elim (λ r. absurd (ne (omega (arith, div-add-mod' i e, div-add-mod' j e, ap (λ (x : ℕ). x * e) q)))) (λ r. inl r) (le_or_lt (j % e) (i % e))) (λ p. inr p) (le_or_lt (i % e) (j % e))

  pub placed_extents : Placed (place_of d e starts) (d - 1) n len
  placed_extents = record { room = λ i l. (reached_extents i l).inside; apart = apart }
    where
      apart : (i j : ℕ) → i < n → j < n → (i ≡ j → ⊥) → (place_of d e starts i + (d - 1) ≤ place_of d e starts j) ⊎ (place_of d e starts j + (d - 1) ≤ place_of d e starts i)
      apart i j l k ne = by (eqb (i / e) (j / e)) refl
        where
          by : (b : Bool) → eqb (i / e) (j / e) ≡ b → (place_of d e starts i + (d - 1) ≤ place_of d e starts j) ⊎ (place_of d e starts j + (d - 1) ≤ place_of d e starts i)
          by true z =
              let q = eqb-true (i / e) (j / e) z in
              let s : get_or starts (i / e) 0 ≡ get_or starts (j / e) 0 = ap (λ (x : ℕ). get_or starts x 0) q in
              ⊎_elim (λ p. inl (omega (arith, is i, is j, s, mul-le-mul_right (d - 1) p))) (λ p. inr (omega (arith, is i, is j, s, mul-le-mul_right (d - 1) p))) (one-extent i j q ne)
          by false z =
              ⊎_elim (λ p. inl (omega (arith, is i, is j, node-ends i))) (λ p. inr (omega (arith, is i, is j, node-ends j)))
              (fit.apart (i / e) (j / e) (extent-in i l) (extent-in j k) (eqb-false (i / e) (j / e) z))

  pub laid_extents : Laid d e starts n len
  laid_extents = record { reach = reached_extents; placed = placed_extents }

pub room_stretch : {d k n : ℕ} → Stretch d k n → (starts : List ℕ) → Room d k (Reached d 0 starts n)
room_stretch {d} {k} {n} h starts = record { order_low = h.order_low; order_high = h.order_high; few = h.few; reach = reached_stretch d (nodes_of d k) n starts h.long }
