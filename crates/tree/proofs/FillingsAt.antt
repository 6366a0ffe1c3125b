-- An index that is filled key by key, wherever its nodes stand: one key more is the same as the whole new tree written
-- into the index, and so is a list of keys from none on. Assumes nothing.
use Prim.Native.Nat.{ℕ, suc, ◌+◌, ◌-◌, ◌/◌, ◌%◌, ◌≤◌, ◌<◌}
use mathlib.Core.Path.{◌≡◌, refl, ap, ◌∙◌, subst}
use mathlib.Core.Logic.{⊎_elim}
use mathlib.Core.List.{List, [], ◌∷◌, ◌++◌, append_assoc, append-nil}
use mathlib.Core.Bool.{Bool, true, false, cond}
use native.Mathlib.Omega.{arith}
use native.Mathlib.Nat.{mod-lt, zero-add}
use native.Mathlib.Numerals.{add-one}
use lib.ListN.{length, get_or, set, length-append, length-set}
use lib.Seq.{get_or-set_other}
use lib.Dec.{eqb}
use borrow.Author.Tests.{eqb-false}
use Rattle.codec.specs.Parts.{put}
use Rattle.model.specs.Shape.{opens, host, padded, leaves_of}
use Rattle.model.specs.Numbering.{nodes, leaf_node, inner_node}
use Rattle.model.specs.Tree.{nodes_of, Packed, NodesFrame}
use Rattle.tree.specs.Append.{slot, with_separator, with_leaf, append_of, fill_of}
use Rattle.tree.specs.Places.{Placed, with_tree_at}
use Rattle.tree.proofs.Orders.{le_or_lt}
use Rattle.tree.proofs.Leaves.{leaves_none, leaves_next, leaves_mono}
use Rattle.tree.proofs.Numbers.{leaf_in, nodes_mono}
use Rattle.tree.proofs.Apart.{inner_in}
use Rattle.tree.proofs.Hosts.{host_le}
use Rattle.tree.proofs.Takers.{hosted}
use Rattle.tree.proofs.Parts.{length-padded}
use Rattle.tree.proofs.Packings.{tree_length}
use Rattle.tree.proofs.Appends.{append_packed}
use Rattle.tree.proofs.WrittenAt.{framed_same, framed_then, framed_wide, node_framed, framed_with, with_packed, with_unique}

-- no key: no node
pub packed_none : (at : ℕ → ℕ) (d : ℕ) (xs : List ℕ) → 2 ≤ d → Packed at d [] xs
unfolding nodes
packed_none at d xs two n l = absurd (omega (arith, tree_length at d two [] xs, ap (nodes d) (leaves_none d two)))

-- more keys take no fewer nodes
pub count_mono : (d j k : ℕ) → 2 ≤ d → j ≤ k → nodes_of d j ≤ nodes_of d k
count_mono d j k two h =
    let l = leaves_mono d j k two h in
    let e : leaves_of d j + (leaves_of d k - leaves_of d j) ≡ leaves_of d k = omega arith in
    rw e at (nodes_mono d two (leaves_of d j) (leaves_of d k - leaves_of d j))

-- what is placed apart is so in part, and in any index of that length
pub placed_fewer : {at : ℕ → ℕ} {w m n len : ℕ} → m ≤ n → Placed at w n len → Placed at w m len
placed_fewer l pl = record { room = λ i q. pl.room i (omega arith); apart = λ i j p q ne. pl.apart i j (omega arith) (omega arith) ne }

module _ (at : ℕ → ℕ) (d : ℕ) (two : 2 ≤ d) where
  -- a word of node j is set
  set-framed : (n j i v : ℕ) (xs : List ℕ) → j < n → i < d - 1 → NodesFrame at (d - 1) n xs (set xs (at j + i) v)
  set-framed n j i v xs l q = record { same_length = length-set xs (at j + i) v; same_outside = λ k o. get_or-set_other xs (at j + i) k v 0 (λ e. ⊎_elim (λ a. omega arith) (λ a. omega arith) (o j l)) }

  put-framed : (n j v : ℕ) (xs : List ℕ) → Placed at (d - 1) n (length xs) → j < n → NodesFrame at (d - 1) n xs (put xs (at j) (padded (d - 1) (v ∷ [])))
  put-framed n j v xs pl l = node_framed at (d - 1) n (length xs) pl j (padded (d - 1) (v ∷ [])) xs l (length-padded (d - 1) (v ∷ []) (omega arith)) refl

  -- leaf m and all before it have a place
  module _ (m : ℕ) where
    pub separator_framed : (s : ℕ) (xs : List ℕ) → Placed at (d - 1) (nodes d (m + 1)) (length xs) → NodesFrame at (d - 1) (nodes d (m + 1)) xs (with_separator at d m s xs)
    unfolding with_separator
    separator_framed s xs pl = by (eqb m 0) refl (opens d m)
      where
        by : (b : Bool) → eqb m 0 ≡ b → (c : Bool)
            → NodesFrame at (d - 1) (nodes d (m + 1)) xs (cond b xs (cond c (put xs (at (inner_node d m)) (padded (d - 1) (s ∷ []))) (set xs (at (inner_node d (host d m)) + slot d m) s)))
        by true z c = framed_same at (d - 1) _ xs
        by false z true = put-framed (nodes d (m + 1)) (inner_node d m) s xs pl (inner_in d two m (m + 1) (omega arith))
        by false z false =
            let p : 0 < m = ⊎_elim (λ p. p) (λ r. absurd (eqb-false m 0 z (omega arith))) (le_or_lt 1 m) in
            set-framed (nodes d (m + 1)) (inner_node d (host d m)) (slot d m) s xs (inner_in d two (host d m) (m + 1) (omega (arith, host_le d two m))) (hosted d two m p).fits

    leaf-framed : (x : ℕ) (xs : List ℕ) → Placed at (d - 1) (nodes d (m + 1)) (length xs) → NodesFrame at (d - 1) (nodes d (m + 1)) xs (with_leaf at d m x xs)
    unfolding with_leaf
    leaf-framed x xs pl =
        let s = get_or xs (at (leaf_node d (m - 1)) + (d - 2)) 0 in
        let a = separator_framed s xs pl in
        framed_then at (d - 1) a (put-framed (nodes d (m + 1)) (leaf_node d m) x (with_separator at d m s xs) (rw a.same_length pl) (leaf_in d two m (m + 1) (omega arith)))

    append-inside : (k x : ℕ) (xs : List ℕ) → k / (d - 1) ≡ m → Placed at (d - 1) (nodes d (m + 1)) (length xs) → NodesFrame at (d - 1) (nodes d (m + 1)) xs (append_of at d k x xs)
    unfolding append_of
    append-inside k x xs q pl = rw q (by (eqb (k % (d - 1)) 0))
      where
        by : (c : Bool) → NodesFrame at (d - 1) (nodes d (m + 1)) xs (cond c (with_leaf at d m x xs) (set xs (at (leaf_node d m) + k % (d - 1)) x))
        by true = leaf-framed x xs pl
        by false = set-framed (nodes d (m + 1)) (leaf_node d m) (k % (d - 1)) x xs (leaf_in d two m (m + 1) (omega arith)) (mod-lt k {m = d - 1} (omega arith))

  -- ---- one key more

  -- whatever the index holds, only nodes that the keys take are written
  pub append-keeps : (k x : ℕ) (xs : List ℕ) → Placed at (d - 1) (nodes_of d (k + 1)) (length xs) → NodesFrame at (d - 1) (nodes_of d (k + 1)) xs (append_of at d k x xs)
  append-keeps k x xs pl =
      let next : leaves_of d (k + 1) ≡ k / (d - 1) + 1 = leaves_next d k two in
      rw next (append-inside (k / (d - 1)) k x xs refl (rw next at pl))

  module _ (keys : List ℕ) (x : ℕ) (xs : List ℕ) (pl : Placed at (d - 1) (nodes_of d (length keys + 1)) (length xs)) where
    pub append_holds : Packed at d keys xs → Packed at d (keys ++ (x ∷ [])) (append_of at d (length keys) x xs)
    append_holds h = append_packed at d two x keys xs pl h

    pub append-with : Packed at d keys xs → append_of at d (length keys) x xs ≡ with_tree_at at d (keys ++ (x ∷ [])) xs
    append-with h =
        let len : length (keys ++ (x ∷ [])) ≡ length keys + 1 = length-append keys (x ∷ []) in
        with_unique at d two (keys ++ (x ∷ [])) xs (rw len pl) (append_of at d (length keys) x xs) (append_holds h) (rw len (append-keeps (length keys) x xs pl))

  -- ---- a tree over a shorter one

  -- the longer tree's nodes are all written again: what the shorter one was written into shows only outside them
  pub with-with : (keys js xs : List ℕ) → Placed at (d - 1) (nodes_of d (length (keys ++ js))) (length xs) → with_tree_at at d (keys ++ js) (with_tree_at at d keys xs) ≡ with_tree_at at d (keys ++ js) xs
  with-with keys js xs pl =
      let more : nodes_of d (length keys) ≤ nodes_of d (length (keys ++ js)) = count_mono d (length keys) (length (keys ++ js)) two (omega (arith, length-append keys js)) in
      let short = placed_fewer more pl in
      let ys = with_tree_at at d keys xs in
      let f = framed_with at d two keys xs short in
      let long : Placed at (d - 1) (nodes_of d (length (keys ++ js))) (length (with_tree_at at d keys xs)) = rw f.same_length pl in
      with_unique at d two (keys ++ js) xs pl (with_tree_at at d (keys ++ js) ys) (with_packed at d two (keys ++ js) ys long)
      (framed_then at (d - 1) (framed_wide at (d - 1) more f) (framed_with at d two (keys ++ js) ys long))

  -- one key more in an index into which the keys were written
  pub append_over : (keys : List ℕ) (x : ℕ) (index xs : List ℕ) → Placed at (d - 1) (nodes_of d (length keys + 1)) (length xs) → index ≡ with_tree_at at d keys xs
      → append_of at d (length keys) x index ≡ with_tree_at at d (keys ++ (x ∷ [])) xs
  append_over keys x index xs pl e =
      let more : nodes_of d (length keys) ≤ nodes_of d (length keys + 1) = count_mono d (length keys) (length keys + 1) two (omega arith) in
      let short = placed_fewer more pl in
      let ys = with_tree_at at d keys xs in
      let len : length (keys ++ (x ∷ [])) ≡ length keys + 1 = length-append keys (x ∷ []) in
      rw e (append-with keys x ys (rw (framed_with at d two keys xs short).same_length pl) (with_packed at d two keys xs short) ∙ with-with keys (x ∷ []) xs (rw len pl))

  -- ---- key after key
  pub record Filled (keys js xs ys : List ℕ) : Type 0 where
    pub holds : Packed at d (keys ++ js) ys
    pub framed : NodesFrame at (d - 1) (nodes_of d (length keys + length js)) xs ys

  pub fill_filled : (keys js xs : List ℕ) → Placed at (d - 1) (nodes_of d (length keys + length js)) (length xs) → Packed at d keys xs
      → Filled keys js xs (fill_of at d (length keys) js xs)
  unfolding fill_of
  fill_filled keys [] xs pl h = record { holds = rw append-nil h; framed = framed_same at (d - 1) _ xs }
  fill_filled keys (x ∷ js) xs pl h =
      let k : ℕ = length keys in
      let ys = append_of at d k x xs in
      let len : length (keys ++ (x ∷ [])) ≡ k + 1 = length-append keys (x ∷ []) in
      let all : k + 1 + length js ≡ k + suc (length js) = omega arith in
      let more : nodes_of d (k + 1) ≤ nodes_of d (k + suc (length js)) = count_mono d (k + 1) (k + suc (length js)) two (omega arith) in
      let ins = append-keeps k x xs (placed_fewer more pl) in
      let ih = fill_filled (keys ++ (x ∷ [])) js ys (rw (len, all, ins.same_length) pl) (append_holds keys x xs (placed_fewer more pl) h) in
      let zs = fill_of at d (suc k) js ys in
      let ih2 : Filled (keys ++ (x ∷ [])) js ys zs = subst (λ (i : ℕ). Filled (keys ++ (x ∷ [])) js ys (fill_of at d i js ys)) (len ∙ add-one k) ih in
      record {
        holds = subst (λ (ks : List ℕ). Packed at d ks zs) (append_assoc keys (x ∷ []) js) ih2.holds;
        framed = framed_then at (d - 1) (framed_wide at (d - 1) more ins) (rw (len, all) at ih2.framed);
      }

  -- all keys one by one, into any index in which they have a place
  pub fill_with : (keys index : List ℕ) → Placed at (d - 1) (nodes_of d (length keys)) (length index) → fill_of at d 0 keys index ≡ with_tree_at at d keys index
  fill_with keys index pl =
      let f = fill_filled [] keys index (rw zero-add pl) (packed_none at d index two) in
      with_unique at d two keys index pl (fill_of at d 0 keys index) f.holds (rw zero-add at f.framed)
