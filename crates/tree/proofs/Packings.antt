-- An index that holds the packed tree, leaf by leaf, and where its words are. Assumes nothing.
use Prim.Native.Nat.{ℕ, zero, suc, ◌+◌, ◌-◌, ◌*◌, ◌^◌, ◌≤◌, ◌<◌}
use mathlib.Core.Path.{◌≡◌, refl, sym, ap, ◌∙◌}
use mathlib.Core.Logic.{◌⊎◌, ⊎_elim}
use mathlib.Core.List.{List, [], ◌∷◌, map}
use mathlib.Core.Bool.{true}
use native.Mathlib.Omega.{arith}
use native.Mathlib.Nat.{pow-suc, not-suc-le-zero, le_of_suc-le-suc}
use lib.ListN.{length, get_or, take, drop, replicate, length-take, length-map, get_or-append, get_or-eq_default}
use lib.Seq.{get_or-take, get_or-drop, get_or-append-add}
use Rattle.model.specs.Shape.{opens, padded, leaves_of, leaf_words, separator, takers, inner_words}
use Rattle.model.specs.Numbering.{nodes, leaf_node, inner_node}
use Rattle.model.specs.Tree.{tree_of, Packed}
use Rattle.tree.proofs.Orders.{le_or_lt}
use Rattle.tree.proofs.Numbers.{leaf_in}
use Rattle.tree.proofs.Leaves.{leaf_there}
use Rattle.tree.proofs.Hosts.{start, opens_at}
use Rattle.tree.proofs.Takers.{opens-start, takers_get, takers_fit}
use Rattle.tree.proofs.Parts.{length-padded}
use Rattle.tree.proofs.Allotments.{allotted-length, allotted_leaf, allotted_inner, node_cases}

-- ---- leaf by leaf

pub record ByLeaf (at : ℕ → ℕ) (d n : ℕ) (keys xs : List ℕ) : Type 0 where
  pub leaf : (m : ℕ) → m < n → take (d - 1) (drop (at (leaf_node d m)) xs) ≡ leaf_words d keys m
  pub inner : (m : ℕ) → m < n → opens d m ≡ true → take (d - 1) (drop (at (inner_node d m)) xs) ≡ inner_words d keys n m

module _ (at : ℕ → ℕ) (d : ℕ) (two : 2 ≤ d) (keys xs : List ℕ) where
  pub tree_length : length (tree_of d keys) ≡ nodes d (leaves_of d (length keys))
  unfolding tree_of
  tree_length = allotted-length d two _ _ (leaves_of d (length keys))

  pub by_leaf : Packed at d keys xs → ByLeaf at d (leaves_of d (length keys)) keys xs
  unfolding tree_of
  by_leaf h =
      let n = leaves_of d (length keys) in
      record {
        leaf = λ m l. h (leaf_node d m) (omega (arith, leaf_in d two m n l, tree_length)) ∙ allotted_leaf d two _ _ m n l;
        inner = λ m l o. h (inner_node d m) (omega (arith, leaf_in d two m n l, tree_length)) ∙ allotted_inner d two _ _ m n l o;
      }

  pub packed : ByLeaf at d (leaves_of d (length keys)) keys xs → Packed at d keys xs
  unfolding tree_of
  packed h i l = by (node_cases d two n i (omega (arith, tree_length)))
    where
      n : ℕ
      n = leaves_of d (length keys)

      by : (m : ℕ) × ((m < n) × ((i ≡ leaf_node d m) ⊎ ((opens d m ≡ true) × (i ≡ inner_node d m)))) → take (d - 1) (drop (at i) xs) ≡ get_or (tree_of d keys) i []
      by c = ⊎_elim
          (λ e. rw e (h.leaf c.0 c.1.0 ∙ sym (allotted_leaf d two _ _ c.0 n c.1.0)))
          (λ e. rw e.1 (h.inner c.0 c.1.0 e.0 ∙ sym (allotted_inner d two _ _ c.0 n c.1.0 e.0)))
          c.1.1

-- ---- every node has d - 1 words

abbrev pub Words : ℕ → List (List ℕ) → Type 0
Words w ns = (i : ℕ) → i < length ns → length (get_or ns i []) ≡ w

module _ (d : ℕ) (two : 2 ≤ d) (keys : List ℕ) where
  pub leaf_length : (m : ℕ) → length (leaf_words d keys m) ≡ d - 1
  unfolding leaf_words
  leaf_length m = length-padded (d - 1) (take (d - 1) (drop (m * (d - 1)) keys)) (simp length-take (omega arith))

  pub inner_length : (n m : ℕ) → opens d m ≡ true → length (inner_words d keys n m) ≡ d - 1
  unfolding inner_words
  inner_length n m o =
      let at = opens-start d two m o in
      length-padded (d - 1) (map (separator d keys) (takers d m n))
      (rw (length-map (takers d m n) (separator d keys), at.1.1) (takers_fit d two at.0 at.1.0 n))

  pub tree_words : Words (d - 1) (tree_of d keys)
  unfolding tree_of
  tree_words i l = by (node_cases d two n i (omega (arith, allotted-length d two (inner_words d keys n) (leaf_words d keys) n)))
    where
      n : ℕ
      n = leaves_of d (length keys)

      by : (m : ℕ) × ((m < n) × ((i ≡ leaf_node d m) ⊎ ((opens d m ≡ true) × (i ≡ inner_node d m)))) → length (get_or (tree_of d keys) i []) ≡ d - 1
      by c = ⊎_elim
          (λ e. rw e (ap length (allotted_leaf d two (inner_words d keys n) (leaf_words d keys) c.0 n c.1.0) ∙ leaf_length c.0))
          (λ e. rw e.1 (ap length (allotted_inner d two (inner_words d keys n) (leaf_words d keys) c.0 n c.1.0 e.0) ∙ inner_length n c.0 e.0))
          c.1.1

-- ---- words

pub get_d_padded : (w : ℕ) (xs : List ℕ) (i : ℕ) → get_or (padded w xs) i 0 ≡ get_or xs i 0
get_d_padded w xs i = ⊎_elim past (λ q. get_or-append xs (replicate (w - length xs) 0) 0 i q) (le_or_lt (length xs) i)
  where
    none : (n i : ℕ) → ◌≡◌ {A = ℕ} (get_or (replicate n 0) i 0) 0
    none zero i = refl
    none (suc n) zero = refl
    none (suc n) (suc i) = none n i

    past : length xs ≤ i → get_or (padded w xs) i 0 ≡ get_or xs i 0
    past p =
        let e : length xs + (i - length xs) ≡ i = omega arith in
        (rw e at (get_or-append-add xs (replicate (w - length xs) 0) (i - length xs) 0)) ∙ none (w - length xs) (i - length xs) ∙ sym (get_or-eq_default xs 0 p)

pub get_d_map : (f : ℕ → ℕ) (xs : List ℕ) (i : ℕ) → i < length xs → get_or (map f xs) i 0 ≡ f (get_or xs i 0)
get_d_map f [] i h = absurd (not-suc-le-zero h)
get_d_map f (x ∷ xs) zero h = refl
get_d_map f (x ∷ xs) (suc i) h = get_d_map f xs i (le_of_suc-le-suc h)

-- ---- what the words of a node are, wherever it stands

module _ (d : ℕ) (two : 2 ≤ d) (keys : List ℕ) where
  pub leaf_word : (m i : ℕ) → i < d - 1 → get_or (leaf_words d keys m) i 0 ≡ get_or keys (m * (d - 1) + i) 0
  unfolding leaf_words
  leaf_word m i l = get_d_padded (d - 1) (take (d - 1) (drop (m * (d - 1)) keys)) i ∙ get_or-take (d - 1) (drop (m * (d - 1)) keys) i 0 l ∙ get_or-drop (m * (d - 1)) keys i 0

  pub inner_word : (l b i n : ℕ) → i < d - 1 → start d l b + i * d ^ l < n → get_or (inner_words d keys n (start d l b)) i 0 ≡ separator d keys (start d l b + i * d ^ l)
  unfolding inner_words
  inner_word l b i n f here =
      let s = start d l b in
      let g = takers_get d two l b i n f here in
      get_d_padded (d - 1) (map (separator d keys) (takers d s n)) i ∙ get_d_map (separator d keys) (takers d s n) i g.0 ∙ ap (separator d keys) g.1

-- ---- where the words are

-- the keys of leaf m from word leaf m on
abbrev pub LeavesAt : (ℕ → ℕ) → List ℕ → List ℕ → ℕ → Type 0
LeavesAt leaf xs keys d = (m i : ℕ) → i < d - 1 → m * (d - 1) + i < length keys → get_or xs (leaf m + i) 0 ≡ get_or keys (m * (d - 1) + i) 0

-- the separators of the node that leaf b * d ^ suc l + d ^ l opened from word inner of that on
abbrev pub SeparatorsAt : (ℕ → ℕ) → List ℕ → List ℕ → ℕ → Type 0
SeparatorsAt inner xs keys d = (l b i : ℕ) → i < d - 1 → (b * d ^ suc l + d ^ l + i * d ^ l) * (d - 1) < length keys
    → get_or xs (inner (b * d ^ suc l + d ^ l) + i) 0 ≡ get_or keys ((b * d ^ suc l + d ^ l + i * d ^ l) * (d - 1) - 1) 0

module _ (at : ℕ → ℕ) (d : ℕ) (two : 2 ≤ d) (keys xs : List ℕ) (h : ByLeaf at d (leaves_of d (length keys)) keys xs) where
  word : (a i : ℕ) → i < d - 1 → get_or (take (d - 1) (drop a xs)) i 0 ≡ get_or xs (a + i) 0
  word a i l = get_or-take (d - 1) (drop a xs) i 0 l ∙ get_or-drop a xs i 0

  pub leaves_at : LeavesAt (λ m. at (leaf_node d m)) xs keys d
  leaves_at m i l k =
      sym (word (at (leaf_node d m)) i l) ∙ ap (λ (ys : List ℕ). get_or ys i 0) (h.leaf m (leaf_there d (length keys) m two (omega arith))) ∙ leaf_word d two keys m i l

  pub separators_at : SeparatorsAt (λ m. at (inner_node d m)) xs keys d
  separators_at l b i f k =
      let e : b * d ^ suc l + d ^ l ≡ start d l b = rw pow-suc (omega arith) in
      rw e (at-start (rw e at k))
    where
      at-start : (start d l b + i * d ^ l) * (d - 1) < length keys → get_or xs (at (inner_node d (start d l b)) + i) 0 ≡ get_or keys ((start d l b + i * d ^ l) * (d - 1) - 1) 0
      at-start k =
          let s = start d l b in
          let n = leaves_of d (length keys) in
          let here : s + i * d ^ l < n = leaf_there d (length keys) (s + i * d ^ l) two k in
          sym (word (at (inner_node d s)) i f) ∙ ap (λ (ys : List ℕ). get_or ys i 0) (h.inner s (omega arith) (opens_at d two l b)) ∙ inner_word d two keys l b i n f here
