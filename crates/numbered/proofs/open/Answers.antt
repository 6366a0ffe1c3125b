-- `numbered::open` meets its contract: one stretch is seen as itself. Assumes nothing.
use Prim.Native.Nat.{ℕ}
use mathlib.Core.Path.{◌≡◌, refl}
use mathlib.Core.List.{List}
use lib.ListN.{length}
use Rattle.model.specs.Records.{header_order}
use Rattle.tree.specs.Extents.{stretch_in}
use Rattle.tree.proofs.Stretches.{one_seen, one_is}
use Rattle.numbered.proofs.Lengths.{open_few}
use Rattle.numbered.proofs.open.Goals as goal

pub open-requires : goal.open-requires
open-requires c =
    let x = c.one_stretch-x in
    one_seen (header_order c.args.log.now) x.result x.ensures.nodes (length c.args.index.now) x.ensures.words

pub returns : goal.returns
returns c =
    let x = c.one_stretch-x in
    let one : (index : List ℕ) → stretch_in (header_order c.args.log.now) x.result index ≡ index =
    one_is (header_order c.args.log.now) x.result x.ensures.nodes in
    let opened = rw (one c.args.index.now, one c.«open».new.index) at c.«open».ensures.opened in
    record {
      few = rw c.into.ensures (open_few opened);
      kept = rw c.into.ensures (λ area catalogue e f. record {
        numbers = c.«open».result.numbers;
        verdict = c.«open».result.verdict;
        is = refl;
        kept = opened.opened area catalogue e f;
      });
    }
