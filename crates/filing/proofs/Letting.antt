-- Files let go: entries and areas closed up over them are what the definition writes at the front of catalogue and areas, for
-- any files that go. Assumes nothing.
use Prim.Native.Nat.{ℕ, ◌≤◌}
use mathlib.Core.Path.{◌≡◌, refl, sym, ap}
use mathlib.Core.List.{List, map}
use mathlib.Core.Bool.{Bool}
use lib.ListN.{length, take}
use Rattle.codec.specs.Parts.{put}
use Rattle.model.specs.declared.Numbers.{Numbers}
use Rattle.model.specs.declared.Entry.{Entry}
use Rattle.model.specs.Files.{files_of, entry_of, with_count, staying, closed_up, reduced}
use Rattle.model.specs.Promises.{store_of}
use Rattle.catalogue.specs.declared.Going.{Going}
use Rattle.catalogue.specs.declared.Staying.{Staying}
use Rattle.catalogue.specs.Entries.{stays_when, entries_staying, staying_of, Says, entries_closed}
use Rattle.catalogue.proofs.EntryTurns.{stays_said}
use Rattle.areas.specs.Moved.{areas_closed}
use Rattle.filing.specs.Filing.{LetGo}
use Rattle.filing.proofs.FileEntries.{entries_closed_lem, count_staying}

-- closed up over no entry
pub closed_over_none : (stays : Entry → Bool) (es : List Entry) → entries_closed stays 0 es ≡ es
unfolding entries_staying
closed_over_none stays es = refl

pub let_go_of : (s : Numbers) (x : Staying) (areas : List ℕ) {s' : Numbers} {areas' : List ℕ} → s' ≡ with_count s x.count
    → ((going : Going) (es : List Entry) → s.files ≤ length es → Says going s.files es x → areas' ≡ areas_closed (stays_when going) s.limit s.files es areas)
    → LetGo s x areas s' areas'
let_go_of s x areas {s'} {areas'} numbers_are areas-are = record { is = is }
  where
    is : (going : Going) (log index table : List ℕ) (catalogue : List Entry) → x ≡ staying_of going (take s.files catalogue) (length catalogue)
        → s.files ≤ length catalogue
        → store_of s' log index table (entries_closed (stays_when going) s.files catalogue) areas' ≡ reduced (stays_when going) (store_of s log index table catalogue areas)
    is going log index table catalogue same few =
        let stays = stays_when going in
        let es = take s.files catalogue in
        let left = staying stays (files_of (store_of s log index table catalogue areas)) in
        let says : Says going s.files catalogue x = rw same (stays_said going catalogue s.files (length catalogue) few) in
        let counted : x.count ≡ length left = rw same (sym (count_staying s.limit areas stays es)) in
        let closed : entries_closed stays s.files catalogue ≡ put catalogue 0 (map entry_of (closed_up s.limit s.files left)) =
        ap (put catalogue 0) (sym (entries_closed_lem s.limit areas stays s.files es)) in
        rw (numbers_are, counted, closed, areas-are going catalogue few says)
