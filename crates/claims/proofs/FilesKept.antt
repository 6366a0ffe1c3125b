-- Files in order, each the table of its time: a file more, those that a test lets stay, and the zero entries behind them. Assumes nothing.
use Prim.Native.Nat.{ℕ, suc, ◌+◌, ◌-◌, ◌≤◌, ◌<◌}
use mathlib.Core.Path.{◌≡◌, refl, sym, ap, ◌∙◌}
use mathlib.Core.List.{List, [], ◌∷◌, ◌++◌, append_assoc, map}
use mathlib.Core.Bool.{Bool, true, false, cond, ◌||◌, false≢true}
use native.Mathlib.Omega.{arith}
use lib.ListN.{length, take, drop, replicate, length-append, length-map, length-replicate, replicate-append-replicate}
use lib.Seq.{drop_at, drop-drop}
use lib.Dec.{ltb, eqb}
use borrow.Author.Tests.{ltb-true, ltb-false, eqb-false}
use Rattle.codec.specs.Parts.{put}
use Rattle.codec.proofs.PartLaws.{take-put-past, drop_replicate}
use Rattle.model.specs.declared.Entry.{Entry}
use Rattle.model.specs.Records.{Rec}
use Rattle.model.specs.Memory.{no_entry}
use Rattle.model.specs.Files.{File, no_file, entry_of, is_kept, file_in, staying}
use Rattle.model.specs.Facts.{FileIs, FilesAre}
use Rattle.model.proofs.FileLaws.{map-append, map_replicate}

-- ---- a file more

pub length-file_in : (f : File) (fs : List File) → length (file_in f fs) ≡ suc (length fs)
unfolding file_in
length-file_in f [] = refl
length-file_in f (x ∷ xs) = by (length-file_in f xs) (ltb x.entry.time f.entry.time)
  where
    by : length (file_in f xs) ≡ suc (length xs) → (t : Bool) → length (cond t (x ∷ file_in f xs) (f ∷ (x ∷ xs))) ≡ suc (suc (length xs))
    by ih true = ap suc ih
    by ih false = refl

module _ (R last : ℕ) (rs : List Rec) where
  from-later : {before b' : ℕ} {f : File} → FileIs R last rs before f → b' < f.entry.time → FileIs R last rs b' f
  from-later h l = record { later = l; held = h.held; rows_are = h.rows_are; area_is = h.area_is; mark_is = h.mark_is }

  pub files_with : (f : File) (before : ℕ) (fs : List File) → FileIs R last rs before f → is_kept f.entry.time fs ≡ false → FilesAre R last rs before fs
      → FilesAre R last rs before (file_in f fs)
  unfolding FilesAre file_in is_kept
  files_with f before [] new free h = (new, tt)
  files_with f before (x ∷ xs) new free h = by (ltb x.entry.time f.entry.time) refl (files_with f x.entry.time xs) (eqb x.entry.time f.entry.time) refl free
    where
      by : (t : Bool) → ltb x.entry.time f.entry.time ≡ t
          → (FileIs R last rs x.entry.time f → is_kept f.entry.time xs ≡ false → FilesAre R last rs x.entry.time xs → FilesAre R last rs x.entry.time (file_in f xs))
          → (k : Bool) → eqb x.entry.time f.entry.time ≡ k → (k || is_kept f.entry.time xs) ≡ false
          → FilesAre R last rs before (cond t (x ∷ file_in f xs) (f ∷ (x ∷ xs)))
      by t e ih true q g = absurd (false≢true (sym g))
      by true e ih false q g = (h.0, ih (from-later new (ltb-true _ _ e)) g h.1)
      by false e ih false q g =
          let up : f.entry.time ≤ x.entry.time = ltb-false _ _ e in
          let other = eqb-false x.entry.time f.entry.time q in
          (new, (from-later h.0 (above x.entry.time f.entry.time up other), h.1))
        where
          above : (a b : ℕ) → b ≤ a → (a ≡ b → ⊥) → b < a
          above a b l n = by-test (ltb b a) refl
            where
              by-test : (t : Bool) → ltb b a ≡ t → b < a
              by-test true e = ltb-true _ _ e
              by-test false e = let m : a ≤ b = ltb-false _ _ e in absurd (n (omega arith))

  -- ---- the files that a test lets stay

  pub files_staying : (stays : Entry → Bool) (before b' : ℕ) (fs : List File) → b' ≤ before → FilesAre R last rs before fs
      → FilesAre R last rs b' (staying stays fs)
  unfolding FilesAre staying
  files_staying stays before b' [] l h = tt
  files_staying stays before b' (x ∷ xs) l h =
      by (stays x.entry) (files_staying stays x.entry.time x.entry.time xs (omega arith) h.1)
      (files_staying stays x.entry.time b' xs (omega (arith, h.0.later)) h.1)
    where
      by : (q : Bool) → FilesAre R last rs x.entry.time (staying stays xs) → FilesAre R last rs b' (staying stays xs)
          → FilesAre R last rs b' (cond q (x ∷ staying stays xs) (staying stays xs))
      by true a b = (from-later h.0 (omega (arith, h.0.later)), a)
      by false a b = b

-- ---- zero entries behind them

-- of a catalogue with zero entries from `files` up to its capacity, the front overwritten by files and by no files
pub rest_back : (R : ℕ) (catalogue : List Entry) (slots files : ℕ) (gs : List File) (j : ℕ) → files ≤ length gs + j → length gs + j ≤ slots
    → drop files (take slots catalogue) ≡ replicate (slots - files) no_entry
    → drop (length gs) (take slots (put catalogue 0 (map entry_of (gs ++ replicate j (no_file R))))) ≡ replicate (slots - length gs) no_entry
rest_back R catalogue slots files gs j low high zero_rest =
    let n = length gs in
    let es = map entry_of (gs ++ replicate j (no_file R)) in
    let front = take slots catalogue in
    let is : es ≡ map entry_of gs ++ replicate j no_entry = map-append entry_of gs (replicate j (no_file R)) ∙ ap (λ (xs : List Entry). map entry_of gs ++ xs) (map_replicate entry_of j (no_file R)) in
    let long : length es ≡ n + j = length-map (gs ++ replicate j (no_file R)) entry_of ∙ length-append gs (replicate j (no_file R)) ∙ rw (length-replicate j (no_file R)) in
    let ends : 0 + length es ≡ n + j = omega arith in
    let split : n + j ≡ files + (n + j - files) = omega arith in
    let left : slots - files - (n + j - files) ≡ slots - (n + j) = omega arith in
    let behind : drop (n + j) (take slots catalogue) ≡ replicate (slots - (n + j)) no_entry =
    ap (λ (k : ℕ). drop k front) split ∙ sym (drop-drop (n + j - files) files front) ∙ ap (drop (n + j - files)) zero_rest
    ∙ drop_replicate (n + j - files) (slots - files) no_entry ∙ ap (λ (k : ℕ). replicate k no_entry) left in
    let whole : take slots (put catalogue 0 es) ≡ map entry_of gs ++ (replicate j no_entry ++ replicate (slots - (n + j)) no_entry) =
    take-put-past slots catalogue 0 es (omega arith) (omega arith)
    ∙ ap (λ (k : ℕ). es ++ drop k front) ends ∙ rw (behind, is) (append_assoc (map entry_of gs) (replicate j no_entry) (replicate (slots - (n + j)) no_entry)) in
    let sum : j + (slots - (n + j)) ≡ slots - n = omega arith in
    rw whole
    (drop_at (map entry_of gs) (replicate j no_entry ++ replicate (slots - (n + j)) no_entry) n (length-map gs entry_of)
    ∙ replicate-append-replicate {A = Entry} j (slots - (n + j)) no_entry ∙ ap (λ (k : ℕ). replicate k no_entry) sum)
