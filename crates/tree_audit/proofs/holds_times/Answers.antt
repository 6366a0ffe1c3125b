use Prim.Native.Nat.{ℕ, ◌+◌, ◌-◌, ◌<◌}
use mathlib.Core.Path.{◌≡◌, sym, ◌∙◌}
use native.Mathlib.Omega.{arith}
use lib.ListN.{drop, length-take, length-drop}
use Rattle.std.proofs.lemmas.List.{get_or-take, get_or-drop}
use Rattle.tree_audit.specs.Times.{Decides}
use Rattle.tree_audit.proofs.holds_times.Goals as goal

pub returns-then-word-time_in : goal.returns-then-word-time_in
unfolding Decides
returns-then-word-time_in c =
    let a = c.args in
    let i = c.loop-i.i in
    let within : i < a.w = omega (arith, length-take {A = ℕ}, length-drop {A = ℕ}) in
    λ all. c.if-word-time_in.true (get_or-take (a.at + a.w - a.at) (drop a.at a.words.now) i 0 (omega arith) ∙ get_or-drop a.at a.words.now i 0 ∙ all i within ∙ sym c.time_in.ensures)

pub returns : goal.returns
unfolding Decides
returns c =
    let e : c.loop-i.i ≡ c.args.w = omega (arith, length-take {A = ℕ}, length-drop {A = ℕ}) in
    rw e at c.loop-i.invariant
