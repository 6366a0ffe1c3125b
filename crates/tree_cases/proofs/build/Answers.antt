use Prim.Native.Nat.{◌+◌}
use native.Mathlib.Nat.{le_trans}
use Rattle.tree.proofs.Fillings.{words_mono}
use Rattle.tree.proofs.Stretches.{one_room}
use native.Mathlib.Omega.{arith}
use Rattle.tree_cases.proofs.build.Goals as goal

pub append-requires : goal.append-requires
append-requires c =
    let a = c.args in
    one_room a.d c.one_stretch-x.result c.one_stretch-x.ensures.nodes (record { order_low = c.requires.order_low; order_high = c.requires.order_high; few = omega (arith, c.requires.few); long = rw c.loop-i.invariant (le_trans (words_mono a.d (c.loop-i.i + 1) a.k c.requires.order_low (omega arith)) c.requires.long) })
