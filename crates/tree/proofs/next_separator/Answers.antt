-- `tree::next_separator` meets its contract: the open node is as many full runs of nodes before the new leaf as
-- its words that are taken. Assumes nothing.
use Prim.Native.Nat.{ℕ, ◌+◌, ◌-◌, ◌%◌, ◌<◌}
use mathlib.Core.Path.{◌≡◌, sym, ap, ap₂, ◌∙◌}
use mathlib.Core.Bool.{false}
use lib.ListN.{get_or, set}
use borrow.Author.Tests.{ne_eqb}
use Rattle.model.specs.Shape.{opens, host, cofactor}
use Rattle.model.specs.Numbering.{leaf_node, inner_node}
use Rattle.tree.specs.Append.{slot}
use Rattle.tree.proofs.Rooms.{leaf_small, leaf_some, one_before, node_reach, open_low, open_is, open_reach, separator_other}
use Rattle.tree.proofs.PlaceLaws.{reached_wide}
use Rattle.tree.specs.Extents.{place_in}
use native.Mathlib.Nat.{mod-lt}
use native.Mathlib.Omega.{arith}
use Rattle.tree.proofs.next_separator.Goals as goal

not-one : (x y : ℕ) → x ≡ y → 1 < x → y ≡ 1 → ⊥
not-one x y e l z = omega arith

pub overflow_sub-leaf : goal.overflow_sub-leaf
overflow_sub-leaf c =
    let a = c.args in
    omega (arith, leaf_some a.d _ a.m a.leaf.0 c.requires.needed c.requires.m_nonzero)

pub last_key-s-requires : goal.last_key-s-requires
last_key-s-requires c =
    let a = c.args in
    record { le_d = c.requires.needed.order_low; d_bound = c.requires.needed.order_high; leaf_bound = omega (arith, leaf_small a.d _ a.m a.leaf.0 c.requires.needed); reached = node_reach a.d _ a.m a.leaf.0 c.requires.needed (omega arith) }

pub overflow_sub-open : goal.overflow_sub-open
overflow_sub-open c =
    let a = c.args in
    omega (arith, leaf_some a.d _ a.m a.leaf.0 c.requires.needed c.requires.m_nonzero)

pub overflow_mul-open : goal.overflow_mul-open
overflow_mul-open c =
    let a = c.args in
    let l = rw (← c.requires.digit_value, ← c.requires.full_value) at (open_low a.d _ a.m a.leaf.0 c.requires.needed c.requires.m_nonzero (rw (← c.requires.digit_value) c.requires.lt_digit)) in
    omega (arith, leaf_small a.d _ a.m a.leaf.0 c.requires.needed)

pub overflow_sub-open-3 : goal.overflow_sub-open-3
overflow_sub-open-3 c =
    let a = c.args in
    rw (c.requires.digit_value, c.requires.full_value) (open_low a.d _ a.m a.leaf.0 c.requires.needed c.requires.m_nonzero (rw (← c.requires.digit_value) c.requires.lt_digit))

pub node_word-requires : goal.node_word-requires
node_word-requires c =
    let a = c.args in
    record { le_d = c.requires.needed.order_low; d_bound = c.requires.needed.order_high; node_bound = omega (arith, leaf_small a.d _ a.m a.leaf.0 c.requires.needed); reached = reached_wide (node_reach a.d _ a.m a.leaf.0 c.requires.needed (omega arith)) (omega arith) }

pub bounds-index-node_word : goal.bounds-index-node_word
bounds-index-node_word c =
    let a = c.args in
    let at = place_in a.d a.x in
    let w = c.node_word in
    let e : w.result ≡ at (inner_node a.d (host a.d a.m)) = w.ensures.value ∙ ap at (rw (c.requires.digit_value, c.requires.full_value) (open_is a.d _ a.m a.leaf.0 c.requires.needed c.requires.m_nonzero (rw (← c.requires.digit_value) c.requires.lt_digit))) in
    omega (arith, (open_reach a.d _ a.m a.leaf.0 c.requires.needed c.requires.m_nonzero (rw (← c.requires.digit_value) c.requires.lt_digit)).inside, c.requires.digit_value, mod-lt (cofactor a.d a.m) {m = a.d} (omega (arith, c.requires.needed.order_low)))

pub returns : goal.returns
unfolding opens slot
returns c =
    let a = c.args in
    let at = place_in a.d a.x in
    let w = c.node_word in
    let e : w.result ≡ at (inner_node a.d (host a.d a.m)) = w.ensures.value ∙ ap at (rw (c.requires.digit_value, c.requires.full_value) (open_is a.d _ a.m a.leaf.0 c.requires.needed c.requires.m_nonzero (rw (← c.requires.digit_value) c.requires.lt_digit))) in
    let xs = a.index.now in
    let f : c.last_key-s.result ≡ get_or xs (at (leaf_node a.d (a.m - 1)) + (a.d - 2)) 0 = c.last_key-s.ensures ∙ ap (λ (n : ℕ). get_or xs (at n + (a.d - 2)) 0) (one_before a.d _ a.m a.leaf.0 c.requires.needed c.requires.m_nonzero (rw (← c.requires.digit_value) c.requires.lt_digit)) in
    let o : opens a.d a.m ≡ false = ne_eqb (cofactor a.d a.m % a.d) 1 (λ z. not-one a.digit (cofactor a.d a.m % a.d) c.requires.digit_value c.requires.lt_digit z) in
    ap₂ (λ (x y : ℕ). set xs (x + (a.digit - 1)) y) e f
    ∙ ap (λ (x : ℕ). set xs (at (inner_node a.d (host a.d a.m)) + (x - 1)) (get_or xs (at (leaf_node a.d (a.m - 1)) + (a.d - 2)) 0)) c.requires.digit_value
    ∙ sym (separator_other at a.d a.m xs _ c.requires.m_nonzero o)
