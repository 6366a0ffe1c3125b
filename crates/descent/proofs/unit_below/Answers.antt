-- `descent::unit_below` meets its contract. Assumes nothing.
use Prim.Native.Nat.{ℕ, ◌/◌}
use mathlib.Core.Path.{sym, ap, ◌∙◌}
use native.Mathlib.Omega.{arith}
use Rattle.descent.proofs.Descents.{unit_low}
use Rattle.descent.proofs.unit_below.Goals as goal

pub returns-then-level-le2 : goal.returns-then-level-le2
returns-then-level-le2 c =
    let a = c.args in
    unit_low a.d (omega arith) a.level (omega arith) (omega arith) ∙ ap (λ (x : ℕ). x / a.d) (sym c.requires.u_value)
