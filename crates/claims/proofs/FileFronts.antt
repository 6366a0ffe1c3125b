-- The first files of those that a state holds: read again by their own entries, the bytes of their areas, and the next one
-- of them put in behind. Assumes nothing.
use Prim.Native.Nat.{ℕ, suc, ◌*◌, ◌<◌}
use mathlib.Core.Path.{◌≡◌, refl, sym, ap, ◌∙◌}
use mathlib.Core.List.{List, [], ◌∷◌, ◌++◌, map}
use mathlib.Core.Bool.{false}
use native.Mathlib.Omega.{arith}
use lib.ListN.{length, length-map}
use borrow.Author.Tests.{lt-ltb}
use Rattle.codec.specs.Parts.{part}
use Rattle.model.specs.declared.Entry.{Entry}
use Rattle.model.specs.Records.{Rec}
use Rattle.model.specs.Files.{File, files_in, areas_bytes, entry_of, is_kept, file_in}
use Rattle.model.proofs.Compare.{lt_eqb}
use Rattle.model.proofs.FileLaws.{areas_files_in}
use Rattle.model.specs.Facts.{FileIs, FilesAre}

-- ---- read by their own entries

cons_first : {x y : File} {xs ys : List File} → ◌≡◌ {A = List File} (x ∷ xs) (y ∷ ys) → x ≡ y
cons_first e = cc

cons_rest : {x y : File} {xs ys : List File} → ◌≡◌ {A = List File} (x ∷ xs) (y ∷ ys) → xs ≡ ys
cons_rest e = cc

nil-cons : {y : File} {ys : List File} → ◌≡◌ {A = List File} [] (y ∷ ys) → ⊥
nil-cons e = let z : ◌≡◌ {A = ℕ} 0 1 = cc in omega arith

module _ (R : ℕ) (areas : List ℕ) where
  pub front_files : (gs hs : List File) (i : ℕ) (es : List Entry) → files_in R areas i es ≡ gs ++ hs → files_in R areas i (map entry_of gs) ≡ gs
  unfolding files_in
  front_files [] hs i es e = refl
  front_files (g ∷ gs) hs i [] e = absurd (nil-cons e)
  front_files (g ∷ gs) hs i (x ∷ xs) e =
      let one = cons_first e in
      let area : part (8 * R * i) (8 * R) areas ≡ g.area = ap (λ (f : File). f.area) one in
      let same : ◌≡◌ {A = File} (record { entry = g.entry; area = part (8 * R * i) (8 * R) areas }) (record { entry = g.entry; area = g.area }) = cc in
      let more : files_in R areas (suc i) (map entry_of gs) ≡ gs = front_files gs hs (suc i) xs (cons_rest e) in
      let whole : ◌≡◌ {A = List File} (record { entry = g.entry; area = part (8 * R * i) (8 * R) areas } ∷ files_in R areas (suc i) (map entry_of gs)) (record { entry = g.entry; area = g.area } ∷ gs) = cc in
      whole

  pub front_areas : (gs hs : List File) (i : ℕ) (es : List Entry) → files_in R areas i es ≡ gs ++ hs → areas_bytes gs ≡ part (8 * R * i) (8 * R * length gs) areas
  front_areas gs hs i es e =
      ap areas_bytes (sym (front_files gs hs i es e)) ∙ areas_files_in R areas i (map entry_of gs)
      ∙ ap (λ (n : ℕ). part (8 * R * i) (8 * R * n) areas) (length-map gs entry_of)

-- ---- the next file goes behind those before it

module _ (R last : ℕ) (rs : List Rec) where
  pub record NextFile (before : ℕ) (gs : List File) (f : File) : Type 0 where
    pub is : FileIs R last rs before f
    pub goes_last : file_in f gs ≡ gs ++ (f ∷ [])
    pub not_kept : is_kept f.entry.time gs ≡ false

  pub next_file : (before : ℕ) (gs : List File) (f : File) (hs : List File) → FilesAre R last rs before (gs ++ (f ∷ hs)) → NextFile before gs f
  unfolding FilesAre file_in is_kept
  next_file before [] f hs h = record { is = h.0; goes_last = refl; not_kept = refl }
  next_file before (g ∷ gs) f hs h =
      let n = next_file g.entry.time gs f hs h.1 in
      let up : g.entry.time < f.entry.time = n.is.later in
      record {
        is = record { later = omega (arith, h.0.later); held = n.is.held; rows_are = n.is.rows_are; area_is = n.is.area_is; mark_is = n.is.mark_is };
        goes_last = rw (lt-ltb _ _ up, n.goes_last);
        not_kept = rw (lt_eqb up, n.not_kept);
      }
