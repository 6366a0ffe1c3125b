-- An index holds the packed tree just where each leaf, and each node that a leaf opened, holds its times. Assumes nothing.
use Prim.Native.Nat.{ℕ, zero, suc, ◌+◌, ◌-◌, ◌*◌, ◌/◌, ◌%◌, ◌^◌, ◌≤◌, ◌<◌}
use mathlib.Core.Path.{◌≡◌, sym, ap, ◌∙◌}
use mathlib.Core.List.{List}
use mathlib.Core.Bool.{Bool, true, false}
use native.Mathlib.Omega.{arith}
use native.Mathlib.Nat.{le_refl, mul-le-mul_right, mul-le-mul_left, zero-mod, mul-div_cancel}
use lib.ListN.{length, get_or}
use borrow.Author.Tests.{eq-eqb, ne_eqb}
use Rattle.codec.specs.Parts.{same}
use Rattle.codec.proofs.PartLaws.{length_part}
use Rattle.codec.proofs.Sameness.{same_of_equal, same_of_unequal}
use Rattle.model.specs.Records.{records}
use Rattle.model.specs.Shape.{opens, valuation, cofactor, leaves_of}
use Rattle.model.specs.Numbering.{nodes, leaf_node}
use Rattle.model.specs.Pages.{page_times, pages_of}
use Rattle.model.specs.Tree.{nodes_of, Packed}
use Rattle.model.proofs.RecordLaws.{length-records}
use Rattle.model.proofs.PageLaws.{length_page_times}
use Rattle.tree.specs.Levels.{inners_over, full_nodes}
use Rattle.tree.specs.Places.{place_of, with_tree_at, Placed}
use Rattle.tree.proofs.Numbers.{leaf_in}
use Rattle.tree.proofs.Runs.{run_step, over_step}
use Rattle.tree.proofs.Valuations.{restored}
use Rattle.tree.proofs.Allotments.{inner_node_lem}
use Rattle.tree.proofs.Packings.{ByLeaf, by_leaf, packed, leaf_length, inner_length}
use Rattle.tree.proofs.WrittenAt.{with_packed, packed_with}
use Rattle.tree_audit.specs.Times.{Decides}
use Rattle.tree_audit.specs.Stands.{span_of, first_of, Stands, Auditable, Openable}
use Rattle.tree_audit.proofs.Words.{same_words, word_at, leaf_word, inner_word, leaf_is, leaf_not}

module _ (d N n : ℕ) (b words : List ℕ) {x : ℕ} {starts : List ℕ} (h : Auditable d N n (length b) x starts (length words)) where
  abbrev pub keys : List ℕ
  keys = page_times N (records b n)

  abbrev pub leaves : ℕ
  leaves = leaves_of d (length keys)

  some : 1 ≤ N
  some = omega (arith, h.page_low)

  key_count : length keys ≡ pages_of N n
  key_count = length_page_times N some (records b n) ∙ ap (pages_of N) (length-records b n)

  room : Placed (place_of d x starts) (d - 1) (nodes_of d (length keys)) (length words)
  room = rw key_count h.laid.placed

  -- a node before the last leaf's end is there
  pub node_in : (m i : ℕ) → m < leaves → i ≤ leaf_node d m → i < nodes_of d (pages_of N n)
  node_in m i l k =
      let more : i < nodes d leaves = omega (arith, leaf_in d h.order_low m leaves l) in
      rw key_count at more

  pub node_there : (m i : ℕ) → m < leaves → i ≤ leaf_node d m → place_of d x starts i + (d - 1) ≤ length words
  node_there m i l k = h.laid.placed.room i (node_in m i l k)

  pub leaf_there : (m : ℕ) → first_of d N m < n → m < leaves
  leaf_there m l = leaf_is N some b n d h.order_low m l

  pub leaf_past : (m : ℕ) → n ≤ first_of d N m → leaves ≤ m
  leaf_past m l = leaf_not N some b n d h.order_low m l

  -- ---- both ways

  stands-of-leaf : (p : ByLeaf (place_of d x starts) d leaves keys words) (m : ℕ) → m < leaves → Stands (place_of d x starts) d N n b words m
  stands-of-leaf p m l = record {
    leaf = λ i k. sym (word_at (place_of d x starts (leaf_node d m)) (d - 1) words i k) ∙ ap (λ (ys : List ℕ). get_or ys i 0) (p.leaf m l) ∙ leaf_word N some b n d h.order_low m i k;
    inner = λ o i k. sym (word_at (place_of d x starts (nodes d m)) (d - 1) words i k)
        ∙ ap (λ (ys : List ℕ). get_or ys i 0) ((rw (inner_node_lem d h.order_low m o) at (p.inner m l o))) ∙ inner_word N some b n d h.order_low m i o k;
  }

  pub stands_of_packed : Packed (place_of d x starts) d keys words → (m : ℕ) → m < leaves → Stands (place_of d x starts) d N n b words m
  stands_of_packed p m l = stands-of-leaf (by_leaf (place_of d x starts) d h.order_low keys words p) m l

  pub packed_of_stands : ((m : ℕ) → m < leaves → Stands (place_of d x starts) d N n b words m) → Packed (place_of d x starts) d keys words
  packed_of_stands s = packed (place_of d x starts) d h.order_low keys words (record {
    leaf = λ m l.
        let e = leaf_length d h.order_low keys m in
        same_words _ _ (length_part (place_of d x starts (leaf_node d m)) (d - 1) words (node_there m (leaf_node d m) l (le_refl (leaf_node d m))) ∙ sym e)
        (λ i k. word_at (place_of d x starts (leaf_node d m)) (d - 1) words i (omega (arith, e)) ∙ (s m l).leaf i (omega (arith, e)) ∙ sym (leaf_word N some b n d h.order_low m i (omega (arith, e))));
    inner = λ m l o.
        let e = inner_length d h.order_low keys leaves m o in
        let nd = inner_node_lem d h.order_low m o in
        rw nd (same_words _ _ (length_part (place_of d x starts (nodes d m)) (d - 1) words (node_there m (nodes d m) l (omega (arith, nd))) ∙ sym e)
        (λ i k. word_at (place_of d x starts (nodes d m)) (d - 1) words i (omega (arith, e)) ∙ (s m l).inner o i (omega (arith, e)) ∙ sym (inner_word N some b n d h.order_low m i o (omega (arith, e)))));
  })

  -- ---- the answer

  pub tree_held : Packed (place_of d x starts) d keys words → true ≡ same (with_tree_at (place_of d x starts) d keys words) words
  tree_held p = sym (same_of_equal _ _ (packed_with (place_of d x starts) d h.order_low keys words room p))

  pub tree_not_held : (Packed (place_of d x starts) d keys words → ⊥) → false ≡ same (with_tree_at (place_of d x starts) d keys words) words
  tree_not_held other = sym (same_of_unequal _ _ (λ e. other (rw e at (with_packed (place_of d x starts) d h.order_low keys words room))))

-- ---- the span of a leaf

pub span_none : (d m : ℕ) → opens d m ≡ false → span_of d m ≡ 0
unfolding span_of
span_none d m o = rw o

pub span-some : (d m : ℕ) → opens d m ≡ true → span_of d m ≡ d ^ valuation d m
unfolding span_of
span-some d m o = rw o

pub not_opens : (d m : ℕ) → (cofactor d m % d ≡ 1 → ⊥) → opens d m ≡ false
unfolding opens
not_opens d m h = ne_eqb _ _ h

pub is_opening : (d m : ℕ) → cofactor d m % d ≡ 1 → opens d m ≡ true
unfolding opens
is_opening d m h = eq-eqb _ _ h

module _ (d m full : ℕ) (two : 2 ≤ d) (pos : 0 < m) (is : full ≡ full_nodes d (valuation d m)) where
  run : full ≡ d * inners_over d (valuation d m) + 1
  run = is ∙ sym (over_step d (valuation d m)) ∙ run_step d two (valuation d m)

  pub full_pos : 1 ≤ full
  full_pos = omega (arith, run)

  below : (full - 1) / d ≡ inners_over d (valuation d m)
  below =
      let e : full - 1 ≡ inners_over d (valuation d m) * d = omega (arith, run) in
      rw e (mul-div_cancel (inners_over d (valuation d m)) {n = d} (omega arith))

  pub below_fits : (full - 1) / d ≤ full
  below_fits = omega (arith, below, is)

  pub span_is : full - (full - 1) / d ≡ d ^ valuation d m
  span_is = omega (arith, below, is)

  pub span_few : cofactor d m % d ≡ 1 → d ^ valuation d m ≤ m
  span_few o = by (cofactor d m) (restored d two m pos) o
    where
      by : (q : ℕ) → q * d ^ valuation d m ≡ m → q % d ≡ 1 → d ^ valuation d m ≤ m
      by zero e o = absurd (omega (arith, o, zero-mod d))
      by (suc q) e o = omega (arith, e)

-- ---- what is read of a node that a leaf opened

module _ {bytes words at w page n first span : ℕ} (h : Openable bytes words at w page n first span) where
  pub opened_few : span * w ≤ first
  opened_few = omega (arith, h.span_fits, mul-le-mul_left (span * w) h.page_low)

  pub opened_after : 0 < span → page ≤ first
  opened_after p =
      let one : 1 ≤ span * w = omega (arith, p, mul-le-mul_left span h.width_low) in
      omega (arith, h.span_fits, mul-le-mul_right page one)

-- a fact that is needed only where P holds
pub decides_where : (r : Bool) (P Q : Type 0) → P → Decides r Q → Decides r (P → Q)
unfolding Decides
decides_where true P Q p q = λ x. q
decides_where false P Q p q = λ f. q (f p)
