-- `descent::keys_up_to` meets its contract. Assumes nothing.
use Rattle.descent.proofs.Ends.{down_top, counted_none}
use native.Mathlib.Omega.{arith}
use Rattle.descent.proofs.keys_up_to.Goals as goal

pub returns-then-k-eq0 : goal.returns-then-k-eq0
returns-then-k-eq0 c = counted_none c.if-k-eq0.true

pub descend-requires : goal.descend-requires
descend-requires c =
    let top = c.top_of-top in
    down_top c.requires (omega arith) top.ensures.unit_value top.ensures.under_value top.ensures.n_bound_2
