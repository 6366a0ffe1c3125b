-- `netting::put_change` meets its contract: four numbers, each right behind the one before. Assumes nothing.
use Prim.Native.Nat.{◌*◌}
use mathlib.Core.Path.{◌∙◌}
use native.Mathlib.Omega.{arith}
use Rattle.netting.proofs.ChangeBytes.{change_put}
use Rattle.netting.proofs.put_change.Goals as goal

pub returns : goal.returns
returns c =
    let a = c.args in
    c.put32-2.ensures
    ∙ rw (c.put32.ensures, c.put16-2.ensures, c.put16.ensures) (change_put a.out.now (12 * a.k) a.kind a.article a.count (omega arith))
