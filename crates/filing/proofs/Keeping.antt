-- A file more: its entry and its table at their place are what the definition writes at the front of catalogue and areas.
-- Assumes nothing.
use Prim.Native.Nat.{ℕ, ◌+◌, ◌-◌, ◌*◌, ◌≤◌, ◌<◌}
use mathlib.Core.Path.{◌≡◌, refl, sym, ap, ◌∙◌}
use mathlib.Core.List.{List, [], ◌∷◌, ◌++◌, map}
use native.Mathlib.Omega.{arith}
use native.Mathlib.Nat.{mul-add, mul-le-mul_right}
use lib.ListN.{length, take, drop, length-drop}
use lib.Seq.{slice, length-take-le, take-take}
use borrow.Author.Tests.{lt-ltb}
use Rattle.codec.specs.Parts.{put, moved_up}
use Rattle.codec.proofs.PartLaws.{part_is_slice}
use Rattle.model.specs.declared.Numbers.{Numbers}
use Rattle.model.specs.declared.Entry.{Entry}
use Rattle.model.specs.Memory.{State}
use Rattle.model.specs.Rows.{table_bytes}
use Rattle.model.specs.Queries.{rows_at}
use Rattle.model.specs.Files.{File, files_in, files_of, areas_bytes, entry_of, with_count, with_file, file_in, file_of, file_at}
use Rattle.model.specs.Audit.{Audited}
use Rattle.model.specs.Promises.{store_of}
use Rattle.model.proofs.FileLaws.{map-append, areas_append, entries_files_in, areas_files_in}
use Rattle.catalogue.specs.Entries.{place_for, entry_put, entry_shifted}
use Rattle.catalogue.proofs.EntryTurns.{place_within}
use Rattle.areas.specs.Moved.{area_put}
use Rattle.areas.proofs.Moves.{gap_in_front}
use Rattle.filing.specs.Filing.{KeptFile}
use Rattle.filing.proofs.FileEntries.{file_in_at}

-- ---- the entry at its place

pub shifted_none : (es : List Entry) (e : Entry) → entry_shifted es 0 0 e ≡ es
unfolding entry_shifted
shifted_none es e = refl

pub shifted-put : (es : List Entry) (files at : ℕ) (e : Entry) → at ≤ files → entry_shifted es at (files + 1) e ≡ entry_put es files at e
unfolding entry_shifted
shifted-put es files at e h =
    let same : files + 1 - 1 ≡ files = omega arith in
    rw (lt-ltb at (files + 1) (omega arith), same)

-- ---- on any entries and areas

module _ (R : ℕ) (areas : List ℕ) (es : List Entry) (f : File) where
  abbrev place : ℕ
  place = place_for f.entry.time es

  abbrev gs : List File
  gs = file_in f (files_in R areas 0 es)

  abbrev before : List File
  before = files_in R areas 0 (take (place_for f.entry.time es) es)

  abbrev behind : List File
  behind = files_in R areas (0 + place_for f.entry.time es) (drop (place_for f.entry.time es) es)

  entries-kept : map entry_of gs ≡ take place es ++ (f.entry ∷ drop place es)
  entries-kept =
      ap (map entry_of) (file_in_at R areas f 0 es) ∙ map-append entry_of before (f ∷ behind)
      ∙ rw (entries_files_in R areas 0 (take place es), entries_files_in R areas (0 + place) (drop place es))

  areas-kept : areas_bytes gs ≡ take (8 * R * place) areas ++ (f.area ++ slice (8 * R * place) (8 * R * length es) areas)
  unfolding areas_bytes
  areas-kept =
      let within = place_within f.entry.time es in
      let none : 8 * R * 0 ≡ 0 = omega arith in
      let here : 0 + place ≡ place = omega arith in
      let all : place + (length es - place) ≡ length es = omega arith in
      let ends : 8 * R * place + 8 * R * (length es - place) ≡ 8 * R * length es = sym (mul-add (8 * R) place (length es - place)) ∙ ap (λ (n : ℕ). 8 * R * n) all in
      let front : areas_bytes before ≡ take (8 * R * place) areas = areas_files_in R areas 0 (take place es) ∙ rw (none, length-take-le place es within) in
      let back : areas_bytes behind ≡ slice (8 * R * place) (8 * R * length es) areas =
      areas_files_in R areas (0 + place) (drop place es)
      ∙ rw (here, length-drop place es) (part_is_slice (8 * R * place) (8 * R * (length es - place)) areas ∙ ap (λ (n : ℕ). slice (8 * R * place) n areas) ends) in
      ap areas_bytes (file_in_at R areas f 0 es) ∙ areas_append before (f ∷ behind) ∙ rw (front, back)

-- ---- of a state

module _ (s : Numbers) (log index table : List ℕ) (catalogue : List Entry) (areas : List ℕ) (t k : ℕ) where
  abbrev st : State
  st = store_of s log index table catalogue areas

  abbrev R : ℕ
  R = s.limit

  abbrev es : List Entry
  es = take s.files catalogue

  -- rows and table of a file, and where the audit passes the memory those of its time
  pub kept-file_of : (rows : ℕ) {ys : List ℕ} (at : ℕ) {areas' : List ℕ} → s.files < length catalogue → 8 * s.limit * (s.files + 1) ≤ length areas
      → length ys ≡ 8 * s.limit → 8 * rows ≤ length ys → at ≡ place_for t (take s.files catalogue) → areas' ≡ area_put s.limit s.files at ys areas
      → (Audited st → (rows ≡ length (rows_at st t)) × (ys ≡ table_bytes s.limit (rows_at st t)))
      → KeptFile st t k (store_of (with_count s (s.files + 1)) log index table (entry_put catalogue s.files at (file_of t rows k areas').entry) areas')
  kept-file_of rows {ys} at {areas'} few fits long rows_few at_is areas-are worked =
      record {
        some = record { rows = rows; area = ys; rows_few = omega arith; area_whole = long; is = result };
        audited = λ ok.
            let is = worked ok in
            let whole : f ≡ file_at st t k = rw (is.0, is.1) in
            result ∙ ap (λ (g : File). with_file g st) whole;
      }
    where
      f : File
      f = file_of t rows k ys

      new : List File
      new = file_in f (files_of st)

      p : ℕ
      p = place_for t es

      count : length es ≡ s.files
      count = length-take-le s.files catalogue (omega arith)

      within : p ≤ s.files
      within = omega (arith, place_within t es, count)

      catalogue-is : entry_put catalogue s.files at f.entry ≡ put catalogue 0 (map entry_of new)
      catalogue-is =
          let cut : take p catalogue ≡ take p es = sym (take-take p s.files catalogue within) in
          rw (at_is, gap_in_front catalogue (f.entry ∷ []) p s.files within (omega arith), cut) (ap (put catalogue 0) (sym (entries-kept R areas es f)))

      areas-is : areas' ≡ put areas 0 (areas_bytes new)
      areas-is =
          let low : p * (8 * R) ≤ s.files * (8 * R) = mul-le-mul_right (8 * R) within in
          let is : areas_bytes new ≡ take (8 * R * p) areas ++ (ys ++ slice (8 * R * p) (8 * R * s.files) areas) =
          areas-kept R areas es f ∙ ap (λ (n : ℕ). take (8 * R * p) areas ++ (ys ++ slice (8 * R * p) (8 * R * n) areas)) count in
          areas-are ∙ ap (λ (q : ℕ). area_put R s.files q ys areas) at_is
          ∙ ap (λ (n : ℕ). put (moved_up areas (8 * R * p) (8 * R * s.files) n) (8 * R * p) ys) (sym long)
          ∙ gap_in_front areas ys (8 * R * p) (8 * R * s.files) (omega arith) (omega (arith, long)) ∙ ap (put areas 0) (sym is)

      result : store_of (with_count s (s.files + 1)) log index table (entry_put catalogue s.files at f.entry) areas' ≡ with_file f st
      result = rw (catalogue-is, areas-is)
