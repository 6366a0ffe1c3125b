-- `areas::close_areas` meets its contract. Invariant: for any entries of which the flags say which stay, of the first i files
-- those that stay have their areas at the front, j of them. Assumes nothing.
use Rattle.std.proofs.Common.{◌≡◌, ◌≤◌, List, length}
use Rattle.model.specs.declared.Entry.{Entry}
use Rattle.catalogue.specs.declared.Going.{Going}
use Rattle.catalogue.specs.Entries.{stays_when, Says}
use Rattle.areas.proofs.Closing.{left_of, closed_to}
use Rattle.areas.proofs.close_areas.Given as goal

abbrev pub invariant-loop-i : goal.invariant-loop-i
invariant-loop-i l =
    record {
      few : l.j ≤ l.i;
      long : length l.areas ≡ length l.initial.areas;
      closed : (going : Going) (es : List Entry) → l.files ≤ length es → Says going l.files es l.x
          → (l.j ≡ length (left_of (stays_when going) l.limit es l.initial.areas l.i)) × (l.areas ≡ closed_to (stays_when going) l.limit es l.initial.areas l.i);
    }
