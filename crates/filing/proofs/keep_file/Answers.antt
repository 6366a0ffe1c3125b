-- `filing::keep_file` meets its contract: the table that was worked out aside is the file's area. Assumes nothing.
use Prim.Native.Nat.{ℕ, ◌*◌}
use mathlib.Core.Path.{◌≡◌, ap, ◌∙◌}
use mathlib.Core.List.{List}
use native.Mathlib.Omega.{arith}
use lib.ListN.{length, length-take}
use lib.Seq.{take_at}
use Rattle.pages.specs.Lent.{stretch_lent}
use Rattle.model.specs.declared.TableSaid.{TableSaid}
use Rattle.catalogue.proofs.CandidateLaws.{used_all}
use Rattle.areas.specs.Moved.{area_put}
use Rattle.filing.proofs.Keeping.{kept-file_of}
use Rattle.filing.proofs.keep_file.Goals as goal

pub returns : goal.returns
returns c catalogue mark same place few =
    let a = c.args in
    let s = a.l.numbers in
    let size = 8 * s.limit in
    let kept = c.work_out-w.auto.out in
    let ys = c.work_out-w.new.out in
    let long : length ys ≡ size = kept ∙ simp length-take (omega arith) in
    let areas-are : c.put_area.new.areas ≡ area_put s.limit s.files a.at ys a.areas.now =
    c.put_area.ensures ∙ ap (λ (xs : List ℕ). area_put s.limit s.files a.at xs a.areas.now) (take_at ys _ size long) in
    kept-file_of s a.l.log.now (stretch_lent a.l) a.l.current.now catalogue a.areas.now a.t mark
    c.work_out-w.result.rows a.at few c.requires.files_in_bounds long (omega (arith, c.work_out-w.ensures.within, kept))
    (rw (used_all s catalogue (omega (arith, c.requires.files_bound.0))) at place) areas-are
    (λ ok. let is = c.work_out-w.ensures.worked.on catalogue same ok in (ap (λ (w : TableSaid). w.rows) is.0, is.1))
