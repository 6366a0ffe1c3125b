-- `numbered::delete` meets its contract: the index is seen as one stretch. Assumes nothing.
use Prim.Native.Nat.{ℕ}
use mathlib.Core.Path.{◌≡◌}
use mathlib.Core.List.{List}
use lib.ListN.{length}
use Rattle.tree.specs.Extents.{stretch_in}
use Rattle.tree.proofs.Stretches.{one_seen, one_is}
use Rattle.numbered.proofs.delete.Goals as goal

pub delete-requires : goal.delete-requires
delete-requires c =
    let x = c.one_stretch-x in
    one_seen c.args.s.order x.result x.ensures.nodes (length c.args.index.now) x.ensures.words

pub returns : goal.returns
returns c catalogue area e f =
    let x = c.one_stretch-x in
    let one : (index : List ℕ) → stretch_in c.args.s.order x.result index ≡ index = one_is c.args.s.order x.result x.ensures.nodes in
    record {
      numbers = c.delete.result.numbers;
      verdict = c.delete.result.verdict;
      is = c.into.ensures;
      kept = (rw (one c.args.index.now, one c.delete.new.index) at c.delete.ensures.promised) catalogue area e f;
    }
