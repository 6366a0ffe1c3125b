-- Files in order, and no files, fit their entries and areas: whole areas, bytes, and numbers within their widths. Assumes nothing.
use Prim.Native.Nat.{ℕ, zero, suc, ◌*◌, ◌^◌, ◌≤◌, ◌<◌}
use mathlib.Core.Path.{◌≡◌, ap, ◌∙◌}
use mathlib.Core.List.{List, [], ◌∷◌, ◌++◌, map}
use mathlib.Core.Bool.{true}
use native.Mathlib.Omega.{arith}
use lib.ListN.{length, replicate, length-replicate}
use Rattle.codec.specs.LittleEndian.{AreBytes}
use Rattle.codec.proofs.Numbers.{are_bytes-nil, are_bytes-append, are_bytes-zeros}
use Rattle.model.specs.Records.{Rec}
use Rattle.model.specs.Timeslice.{timeslice}
use Rattle.model.specs.Legal.{legal}
use Rattle.model.specs.Files.{File, no_file, areas_bytes, entry_of}
use Rattle.model.proofs.TimeLaws.{timeslice_rows}
use Rattle.model.proofs.FileLaws.{Whole}
use Rattle.model.proofs.MarkLaws.{mark_small}
use Rattle.rows.proofs.TableBytes.{length-table-bytes, are_bytes-table}
use Rattle.model.specs.Facts.{FilesAre}
use Rattle.claims.proofs.Regions.{EntryFits, no_entry-fits, EntriesFit, entries_nil, entries_cons}

-- ---- files that fit their entries and areas

pub record FileFits (R : ℕ) (f : File) : Type 0 where
  pub area_long : length f.area ≡ 8 * R
  pub bytes_of_areas : AreBytes f.area
  pub entry_fits : EntryFits f.entry

unfoldable pub FilesFit : ℕ → List File → Type 0
FilesFit R [] = Unit
FilesFit R (f ∷ fs) = FileFits R f × FilesFit R fs

pub files_fit_append : (R : ℕ) (fs gs : List File) → FilesFit R fs → FilesFit R gs → FilesFit R (fs ++ gs)
unfolding FilesFit
files_fit_append R [] gs h k = k
files_fit_append R (f ∷ fs) gs h k = (h.0, files_fit_append R fs gs h.1 k)

pub no_files_fit : (R n : ℕ) → FilesFit R (replicate n (no_file R))
unfolding FilesFit
no_files_fit R zero = tt
no_files_fit R (suc n) =
    (record { area_long = length-replicate (8 * R) 0; bytes_of_areas = are_bytes-zeros (8 * R); entry_fits = no_entry-fits }, no_files_fit R n)

module _ (R last : ℕ) (rs : List Rec) (ok : legal R rs ≡ true) (small : last < 2 ^ 64) (few : R ≤ 1024) where
  pub files_fit : (before : ℕ) (fs : List File) → FilesAre R last rs before fs → FilesFit R fs
  unfolding FilesAre FilesFit
  files_fit before [] h = tt
  files_fit before (f ∷ fs) h =
      let rows = timeslice f.entry.time rs in
      let most : length (timeslice f.entry.time rs) ≤ R = timeslice_rows R rs ok f.entry.time in (
        record {
          area_long = ap length h.0.area_is ∙ length-table-bytes R rows most;
          bytes_of_areas = rw h.0.area_is (are_bytes-table R rows);
          entry_fits = record {
            time_fits = omega (arith, h.0.held);
            rows_fit = omega (arith, h.0.rows_are);
            mark_fits = omega (arith, mark_small f.entry.mark h.0.mark_is);
          };
        },
        files_fit f.entry.time fs h.1,
      )

pub entries_of_files : (R : ℕ) (fs : List File) → FilesFit R fs → EntriesFit (map entry_of fs)
unfolding FilesFit
entries_of_files R [] h = entries_nil
entries_of_files R (f ∷ fs) h = entries_cons f.entry (map entry_of fs) h.0.entry_fits (entries_of_files R fs h.1)

pub bytes_of_files : (R : ℕ) (fs : List File) → FilesFit R fs → AreBytes (areas_bytes fs)
unfolding FilesFit areas_bytes
bytes_of_files R [] h = are_bytes-nil
bytes_of_files R (f ∷ fs) h = are_bytes-append f.area (areas_bytes fs) h.0.bytes_of_areas (bytes_of_files R fs h.1)

pub whole_of_fit : (R : ℕ) (fs : List File) → FilesFit R fs → Whole R fs
unfolding FilesFit Whole
whole_of_fit R [] h = tt
whole_of_fit R (f ∷ fs) h = (h.0.area_long, whole_of_fit R fs h.1)
