-- Texts gathered one behind the other are one text, gathered at once. Assumes nothing.
use Prim.Native.Nat.{ℕ, ◌≤◌}
use mathlib.Core.Path.{◌∙◌}
use mathlib.Core.List.{List, ◌++◌}
use native.Mathlib.Omega.{arith}
use lib.ListN.{length, length-append}
use Rattle.codec.proofs.PartLaws.{put-append}
use Rattle.lines.specs.Gathered.{Gathered}

pub gathered_then : {before middle after us vs : List ℕ} {at e f : ℕ} → at ≤ length before
    → Gathered before at us middle e → Gathered middle e vs after f → Gathered before at (us ++ vs) after f
gathered_then {before} {middle} {after} {us} {vs} {at} {e} {f} h first second =
    record {
      ends = rw length-append (omega (arith, first.ends, second.ends));
      written = second.written ∙ rw (first.ends, first.written) (put-append before at us vs h);
    }
