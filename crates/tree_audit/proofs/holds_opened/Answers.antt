-- `tree_audit::holds_opened` meets its contract. Assumes nothing.
use native.Mathlib.Omega.{arith}
use Rattle.tree_audit.specs.Times.{Decides}
use Rattle.tree_audit.proofs.Standings.{decides_where}
use Rattle.tree_audit.proofs.holds_opened.Goals as goal

pub returns-then-span-eq0 : goal.returns-then-span-eq0
unfolding Decides
returns-then-span-eq0 c = λ p. absurd (omega (arith, p, c.if-span-eq0.true))

pub returns : goal.returns
returns c = decides_where c.holds_times.result _ _ (omega arith) c.holds_times.ensures
