-- `embed::yk_drop` meets its contract: the entries are closed up as the areas are. Assumes nothing.
use mathlib.Core.Path.{◌≡◌}
use lib.ListN.{length}
use Rattle.catalogue.specs.declared.Going.TheVariants.{Of}
use Rattle.catalogue.specs.Candidates.{used_in}
use Rattle.catalogue.specs.Entries.{staying_of}
use Rattle.entries.proofs.Callers.{says_used}
use Rattle.embed.proofs.yk_drop.Goals as goal

pub returns : goal.returns
returns c =
    let a = c.args in
    let ys = a.entries.now in
    let e : c.staying-x.result ≡ staying_of (Of a.t) (used_in a.s ys) (length ys) = rw c.of_time.ensures at c.staying-x.ensures.is in
    let few = c.drop-r.ensures.few in
    let says = says_used (Of a.t) a.s ys c.drop-r.result.over e few.0 (rw e at few.1.0) few.1.1 in
    rw (c.remove.ensures (Of a.t) says) (c.drop-r.ensures.kept ys e)
