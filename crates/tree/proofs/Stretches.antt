-- An index seen as one stretch: its nodes have their places, each stands in the stretch as at its place, and what is written
-- at the places is written in the stretch. By these laws all above the tree speaks of the stretch alone. Assumes nothing.
use Prim.Native.Nat.{ℕ, zero, suc, ◌+◌, ◌-◌, ◌≤◌, ◌<◌, zero-le, suc-le-suc}
use mathlib.Core.Path.{◌≡◌, refl, sym, ap, ◌∙◌}
use mathlib.Core.Logic.{◌⊎◌, inl, inr, ⊎_elim}
use mathlib.Core.List.{List}
use mathlib.Core.Bool.{Bool, true, false, false≢true}
use native.Mathlib.Omega.{arith}
use native.Mathlib.Nat.{le-div_iff_mul-le, mul-le-mul_right, mul-div_cancel}
use lib.ListN.{length, replicate, length-replicate}
use borrow.Author.Tests.{eq-eqb, ne_eqb}
use Rattle.codec.specs.Parts.{part, same, zeros}
use Rattle.codec.proofs.Sameness.{same_true, same_of_equal, same_of_unequal}
use Rattle.model.specs.Numbering.{node_word}
use Rattle.model.specs.Tree.{tree_of, nodes_of, index_words, with_tree, without_nodes, Packed}
use Rattle.tree.specs.Append.{append_of}
use Rattle.tree.specs.Places.{place_of, Laid, Placed, with_tree_at, without_nodes_at, extents_of, ExtentsFit, gathered, nodes_in, stretch_of, Seen, StretchFrame}
use Rattle.tree.proofs.Packings.{tree_length}
use Rattle.tree.specs.declared.Extents.{Extents}
use Rattle.tree.specs.Extents.{ReachedIn, SeenIn, stretch_in}
use Rattle.tree.specs.Levels.{Room, Stretch}
use Rattle.tree.proofs.PlaceLaws.{place_stretch, laid_stretch, laid_extents, room_stretch}
use Rattle.tree.proofs.WrittenAt as placed
use Rattle.tree.proofs.Written as flat
use Rattle.tree.proofs.FillingsAt.{placed_fewer, append-keeps}
use Rattle.tree.proofs.Gatherings.{gathered-length, gathered_node, without-gathered, append-gathered}

-- ---- no extents, or some

none_or_some : (e : ℕ) → (e ≡ 0) ⊎ (0 < e)
none_or_some zero = inl refl
none_or_some (suc e) = inr (suc-le-suc zero-le)

module _ (d e : ℕ) (starts : List ℕ) (words : ℕ) (index : List ℕ) where
  stretch-none : e ≡ 0 → stretch_of d e starts words index ≡ index
  unfolding stretch_of
  stretch-none z = rw (eq-eqb e 0 z)

  stretch-some : 0 < e → stretch_of d e starts words index ≡ gathered (place_of d e starts) (d - 1) (nodes_in d words) index
  unfolding stretch_of
  stretch-some p = rw (ne_eqb e 0 (λ z. omega arith))

flat_append : (d : ℕ) (starts : List ℕ) (n x : ℕ) (index : List ℕ) → append_of (place_of d 0 starts) d n x index ≡ append_of (node_word d) d n x index
unfolding place_of
flat_append d starts n x index = refl

flat_without : (d : ℕ) (starts : List ℕ) (n : ℕ) (index : List ℕ) → without_nodes_at (place_of d 0 starts) d n index ≡ without_nodes d n index
unfolding place_of without_nodes_at without_nodes
flat_without d starts n index = refl

-- one stretch is seen as it is
pub seen_stretch : (d : ℕ) (starts : List ℕ) (len : ℕ) → Seen d 0 starts len len
seen_stretch d starts len = record { whole = λ z. refl; low = λ p. absurd (omega arith); exact = λ p. absurd (omega arith); laid = λ p. absurd (omega arith) }

-- the same of what a call is given
module _ (d : ℕ) (x : Extents) (none : x.nodes ≡ 0) where
  pub one_seen : (len : ℕ) → x.words ≡ len → SeenIn d x len
  one_seen len whole = rw (none, whole) (seen_stretch d x.starts.now len)

  pub one_is : (index : List ℕ) → stretch_in d x index ≡ index
  one_is index = stretch-none d x.nodes x.starts.now x.words index none

  pub one_room : {k len : ℕ} → Stretch d k len → Room d k (ReachedIn d x len)
  one_room h = rw none (room_stretch h x.starts.now)

-- extents that are listed, inside the index and apart from one another are seen as one stretch of the nodes in use
pub seen_extents : (d e n len : ℕ) (starts : List ℕ) → 2 ≤ d → 0 < e → ExtentsFit (node_word d e) starts (extents_of e n) len → Seen d e starts (node_word d n) len
seen_extents d e n len starts two some fit =
    let count : nodes_in d (node_word d n) ≡ n = mul-div_cancel n {n = d - 1} (omega arith) in
    record { whole = λ z. absurd (omega arith); low = λ p. two; exact = λ p. rw count; laid = λ p. rw count (laid_extents d e starts n len some fit) }

-- n nodes that fit are among the stretch's
pub nodes_within : (d n words : ℕ) → 2 ≤ d → node_word d n ≤ words → n ≤ nodes_in d words
nodes_within d n words two fits = (le-div_iff_mul-le {k = d - 1} {x = n} {y = words} (omega arith)).1 fits

module _ {d e words len : ℕ} {starts : List ℕ} (h : Seen d e starts words len) where
  -- nodes that fit have their places
  pub seen_laid : (n : ℕ) → node_word d n ≤ words → Laid d e starts n len
  seen_laid n fits = ⊎_elim none some (none_or_some e)
    where
      none : e ≡ 0 → Laid d e starts n len
      none z = rw z (laid_stretch d n len starts (omega (arith, h.whole z)))

      some : 0 < e → Laid d e starts n len
      some p =
          let within = nodes_within d n words (h.low p) fits in
          record { reach = λ i l. (h.laid p).reach i (omega arith); placed = placed_fewer within (h.laid p).placed }

  pub stretch_length : (index : List ℕ) → length index ≡ len → length (stretch_of d e starts words index) ≡ words
  stretch_length index long = ⊎_elim none some (none_or_some e)
    where
      none : e ≡ 0 → length (stretch_of d e starts words index) ≡ words
      none z = rw (stretch-none d e starts words index z) (long ∙ sym (h.whole z))

      some : 0 < e → length (stretch_of d e starts words index) ≡ words
      some p = rw (stretch-some d e starts words index p) (gathered-length (place_of d e starts) (d - 1) (nodes_in d words) index (rw long (h.laid p).placed.room) ∙ h.exact p)

  pub stretch_same : (index index' : List ℕ) → length index ≡ len → length index' ≡ length index → length (stretch_of d e starts words index') ≡ length (stretch_of d e starts words index)
  stretch_same index index' long same = stretch_length index' (same ∙ long) ∙ sym (stretch_length index long)

-- ---- what stands in the stretch

module _ {d e words : ℕ} {starts : List ℕ} (index : List ℕ) (two : 2 ≤ d) (h : Seen d e starts words (length index)) where
  -- node i is in the stretch what it is at its place
  stretch-node : (i : ℕ) → node_word d (suc i) ≤ words → part (node_word d i) (d - 1) (stretch_of d e starts words index) ≡ part (place_of d e starts i) (d - 1) index
  stretch-node i fits = ⊎_elim none some (none_or_some e)
    where
      none : e ≡ 0 → part (node_word d i) (d - 1) (stretch_of d e starts words index) ≡ part (place_of d e starts i) (d - 1) index
      none z = rw (stretch-none d e starts words index z, place_stretch d e starts i z)

      some : 0 < e → part (node_word d i) (d - 1) (stretch_of d e starts words index) ≡ part (place_of d e starts i) (d - 1) index
      some p =
          rw (stretch-some d e starts words index p)
          (gathered_node (place_of d e starts) (d - 1) (nodes_in d words) index (h.laid p).placed.room i (nodes_within d (suc i) words two fits))

  module _ (keys : List ℕ) (fits : index_words d (length keys) ≤ words) where
    tree-node : (i : ℕ) → i < length (tree_of d keys) → part (node_word d i) (d - 1) (stretch_of d e starts words index) ≡ part (place_of d e starts i) (d - 1) index
    tree-node i l =
        let le : suc i ≤ nodes_of d (length keys) = omega (arith, tree_length (node_word d) d two keys index) in
        stretch-node i (omega (arith, mul-le-mul_right (d - 1) le))

    -- a tree stands in the index just where it stands in the stretch
    pub stretch_packed : Packed (node_word d) d keys (stretch_of d e starts words index) → Packed (place_of d e starts) d keys index
    stretch_packed p i l = sym (tree-node i l) ∙ p i l

    packed-stretch : Packed (place_of d e starts) d keys index → Packed (node_word d) d keys (stretch_of d e starts words index)
    packed-stretch p i l = tree-node i l ∙ p i l

    -- what the audit answers of the index it answers of the stretch
    pub stretch_audited : same (with_tree_at (place_of d e starts) d keys index) index ≡ same (with_tree d keys (stretch_of d e starts words index)) (stretch_of d e starts words index)
    stretch_audited = by (same (with_tree_at (place_of d e starts) d keys index) index) refl
      where
        pl : Placed (place_of d e starts) (d - 1) (nodes_of d (length keys)) (length index)
        pl = (seen_laid h (nodes_of d (length keys)) fits).placed

        long : index_words d (length keys) ≤ length (stretch_of d e starts words index)
        long = rw (stretch_length h index refl) fits

        other : same (with_tree_at (place_of d e starts) d keys index) index ≡ false → Packed (node_word d) d keys (stretch_of d e starts words index) → ⊥
        other z p = false≢true (sym z ∙ same_of_equal _ _ (placed.packed_with (place_of d e starts) d two keys index pl (stretch_packed p)))

        by : (b : Bool) → same (with_tree_at (place_of d e starts) d keys index) index ≡ b → b ≡ same (with_tree d keys (stretch_of d e starts words index)) (stretch_of d e starts words index)
        by true z =
            let there = rw (same_true _ _ z) at (placed.with_packed (place_of d e starts) d two keys index pl) in
            sym (same_of_equal _ _ (flat.packed_with d two keys (stretch_of d e starts words index) long (packed-stretch there)))
        by false z = sym (same_of_unequal _ _ (λ q. other z (rw q at (flat.with_packed d two keys (stretch_of d e starts words index) long))))

  -- ---- what is written

  -- one key more
  module _ (n x : ℕ) (fits : index_words d (n + 1) ≤ words) where
    pub stretch_append : stretch_of d e starts words (append_of (place_of d e starts) d n x index) ≡ append_of (node_word d) d n x (stretch_of d e starts words index)
    stretch_append = ⊎_elim none some (none_or_some e)
      where
        none : e ≡ 0 → stretch_of d e starts words (append_of (place_of d e starts) d n x index) ≡ append_of (node_word d) d n x (stretch_of d e starts words index)
        none z = rw (stretch-none d e starts words (append_of (place_of d e starts) d n x index) z, stretch-none d e starts words index z, z) (flat_append d starts n x index)

        some : 0 < e → stretch_of d e starts words (append_of (place_of d e starts) d n x index) ≡ append_of (node_word d) d n x (stretch_of d e starts words index)
        some p =
            rw (stretch-some d e starts words (append_of (place_of d e starts) d n x index) p, stretch-some d e starts words index p)
            (append-gathered (place_of d e starts) d (nodes_in d words) two n x index (nodes_within d (nodes_of d (n + 1)) words two fits) (h.laid p).placed)

    pub append_framed : StretchFrame d e starts words index (append_of (place_of d e starts) d n x index)
    append_framed =
        placed.framed_wide (place_of d e starts) (d - 1) (nodes_within d (nodes_of d (n + 1)) words two fits)
        (append-keeps (place_of d e starts) d two n x index (seen_laid h (nodes_of d (n + 1)) fits).placed)

  -- nodes of zeros
  module _ (n : ℕ) (fits : node_word d n ≤ words) where
    pub stretch_without : stretch_of d e starts words (without_nodes_at (place_of d e starts) d n index) ≡ without_nodes d n (stretch_of d e starts words index)
    stretch_without = ⊎_elim none some (none_or_some e)
      where
        none : e ≡ 0 → stretch_of d e starts words (without_nodes_at (place_of d e starts) d n index) ≡ without_nodes d n (stretch_of d e starts words index)
        none z = rw (stretch-none d e starts words (without_nodes_at (place_of d e starts) d n index) z, stretch-none d e starts words index z, z) (flat_without d starts n index)

        some : 0 < e → stretch_of d e starts words (without_nodes_at (place_of d e starts) d n index) ≡ without_nodes d n (stretch_of d e starts words index)
        some p =
            rw (stretch-some d e starts words (without_nodes_at (place_of d e starts) d n index) p, stretch-some d e starts words index p)
            (without-gathered (place_of d e starts) d (nodes_in d words) two n index (h.laid p).placed (nodes_within d n words two fits))

    pub without_framed : StretchFrame d e starts words index (without_nodes_at (place_of d e starts) d n index)
    unfolding without_nodes_at
    without_framed =
        let few : 0 + length (replicate n (zeros (d - 1))) ≤ n = omega (arith, length-replicate n (zeros (d - 1))) in
        placed.framed_wide (place_of d e starts) (d - 1) (nodes_within d n words two fits)
        (placed.with_framed (place_of d e starts) (d - 1) n (length index) (seen_laid h n fits).placed (replicate n (zeros (d - 1))) 0 index (placed.zero_words d n) few refl)

-- ---- what a call leaves is told whole

-- there is one index with this stretch, in which nothing but words of the stretch's nodes was written
pub index_told : {d e words : ℕ} {starts : List ℕ} (index : List ℕ) → Seen d e starts words (length index) → (left other : List ℕ)
    → StretchFrame d e starts words index left → StretchFrame d e starts words index other
    → stretch_of d e starts words left ≡ stretch_of d e starts words other → left ≡ other
index_told {d} {e} {words} {starts} index h left other framed framed' alike = ⊎_elim none some (none_or_some e)
  where
    none : e ≡ 0 → left ≡ other
    none z = sym (stretch-none d e starts words left z) ∙ alike ∙ stretch-none d e starts words other z

    some : 0 < e → left ≡ other
    some p =
        let gathers = sym (stretch-some d e starts words left p) ∙ alike ∙ stretch-some d e starts words other p in
        placed.same_by_nodes (place_of d e starts) (d - 1) (nodes_in d words) left other
        (λ i l.
        sym (gathered_node (place_of d e starts) (d - 1) (nodes_in d words) left (rw framed.same_length (h.laid p).placed.room) i l)
        ∙ ap (part (node_word d i) (d - 1)) gathers
        ∙ gathered_node (place_of d e starts) (d - 1) (nodes_in d words) other (rw framed'.same_length (h.laid p).placed.room) i l)
        (record { same_length = framed'.same_length ∙ sym framed.same_length; same_outside = λ i o. framed'.same_outside i o ∙ sym (framed.same_outside i o) })
