-- `tree::node_word` meets its contract: the sum fits, since the node lies in the index. Assumes nothing.
use Prim.Native.Nat.{ℕ, ◌+◌, ◌/◌}
use mathlib.Core.Path.{sym, ap, ◌∙◌}
use native.Mathlib.Omega.{arith}
use lib.ListN.{get_or}
use Rattle.tree.proofs.PlaceLaws.{place_stretch, place_extent}
use Rattle.tree.proofs.node_word.Goals as goal

pub returns-then-x-eq0 : goal.returns-then-x-eq0
returns-then-x-eq0 c =
    let a = c.args in
    let e = place_stretch a.d a.x.nodes a.x.starts.now a.node.0 c.if-x-eq0.true in
    record { value = c.words_of.ensures.value ∙ sym e; upper_bound = omega (arith, e, c.requires.reached.inside) }

pub overflow_add-result : goal.overflow_add-result
overflow_add-result c =
    let a = c.args in
    omega (arith, c.requires.reached.inside, c.words_of-2.ensures.value, place_extent a.d a.x.nodes a.x.starts.now a.node.0 (λ z. omega arith))

pub returns : goal.returns
returns c =
    let a = c.args in
    let e = place_extent a.d a.x.nodes a.x.starts.now a.node.0 (λ z. omega arith) in
    record { value = ap (λ (n : ℕ). get_or a.x.starts.now (a.node.0 / a.x.nodes) 0 + n) c.words_of-2.ensures.value ∙ sym e; upper_bound = omega (arith, e, c.words_of-2.ensures.value, c.requires.reached.inside) }
