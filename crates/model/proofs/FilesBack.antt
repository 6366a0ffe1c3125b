-- Files with whole areas, written at the front of catalogue and areas: the first of them are read back, and others may be written over
-- these. Assumes nothing.
use Prim.Native.Nat.{ℕ, suc, ◌+◌, ◌*◌}
use mathlib.Core.Path.{◌≡◌, refl, sym, ap, ◌∙◌}
use mathlib.Core.List.{List, [], ◌∷◌, ◌++◌, append_assoc, map}
use native.Mathlib.Omega.{arith}
use lib.ListN.{length, take, drop, length-append, length-map}
use lib.Seq.{take_at, drop_at}
use Rattle.codec.specs.Parts.{put, part}
use Rattle.model.specs.declared.Entry.{Entry}
use Rattle.model.specs.Memory.{Memory}
use Rattle.model.specs.Files.{File, files_in, areas_bytes, entry_of, with_files}
use Rattle.model.proofs.FileLaws.{map-append, areas_append, Whole, length_whole}

-- ---- written, then read

file_eq : {f : File} {xs : List ℕ} → xs ≡ f.area → ◌≡◌ {A = File} (record { entry = f.entry; area = xs }) f
file_eq {f} {xs} e = let g : ◌≡◌ {A = File} (record { entry = f.entry; area = xs }) (record { entry = f.entry; area = f.area }) = cc in g

files_read : (R : ℕ) (gs : List File) (i : ℕ) (pre rest : List ℕ) → length pre ≡ 8 * R * i → Whole R gs
    → files_in R (pre ++ (areas_bytes gs ++ rest)) i (map entry_of gs) ≡ gs
unfolding files_in areas_bytes Whole
files_read R [] i pre rest l h = refl
files_read R (g ∷ gs) i pre rest l h =
    let a = g.area in
    let shift : pre ++ (areas_bytes (g ∷ gs) ++ rest) ≡ (pre ++ a) ++ (areas_bytes gs ++ rest) = simp append_assoc in
    let cut : pre ++ (areas_bytes (g ∷ gs) ++ rest) ≡ pre ++ (a ++ (areas_bytes gs ++ rest)) = simp append_assoc in
    let long : length (pre ++ a) ≡ 8 * R * suc i = length-append pre a ∙ rw (l, h.0) (omega arith) in
    let here : part (8 * R * i) (8 * R) (pre ++ (areas_bytes (g ∷ gs) ++ rest)) ≡ a =
    rw (cut, drop_at pre (a ++ (areas_bytes gs ++ rest)) (8 * R * i) l) (take_at a (areas_bytes gs ++ rest) (8 * R) h.0) in
    let one = file_eq {f = g} here in
    let more : files_in R (pre ++ (areas_bytes (g ∷ gs) ++ rest)) (suc i) (map entry_of gs) ≡ gs =
    ap (λ (xs : List ℕ). files_in R xs (suc i) (map entry_of gs)) shift ∙ files_read R gs (suc i) (pre ++ a) rest long h.1 in
    cc

-- the first files of those that were written
pub files_back : (R : ℕ) (gs hs : List File) (catalogue : List Entry) (areas : List ℕ) → Whole R gs
    → files_in R (put areas 0 (areas_bytes (gs ++ hs))) 0 (take (length gs) (put catalogue 0 (map entry_of (gs ++ hs)))) ≡ gs
files_back R gs hs catalogue areas h =
    let es = map entry_of gs in
    let rest = drop (0 + length (areas_bytes (gs ++ hs))) areas in
    let front : take (length gs) (put catalogue 0 (map entry_of (gs ++ hs))) ≡ es =
    rw (map-append entry_of gs hs, append_assoc) (take_at es _ (length gs) (length-map gs entry_of)) in
    let bytes : put areas 0 (areas_bytes (gs ++ hs)) ≡ areas_bytes gs ++ (areas_bytes hs ++ rest) = ap (λ (xs : List ℕ). xs ++ rest) (areas_append gs hs) ∙ append_assoc (areas_bytes gs) (areas_bytes hs) rest in
    let none : 0 ≡ 8 * R * 0 = omega arith in
    rw (front, bytes) (files_read R gs 0 [] (areas_bytes hs ++ rest) none h)

-- ---- written over

-- as many in place of the first ones, and those behind stay
put_over_front : {A : Type 0} (xs ys zs rest : List A) → length zs ≡ length ys → put (put xs 0 (ys ++ rest)) 0 zs ≡ put xs 0 (zs ++ rest)
put_over_front {A} xs ys zs rest e =
    let tail = drop (0 + length (ys ++ rest)) xs in
    let n : 0 + length (ys ++ rest) ≡ 0 + length (zs ++ rest) = omega (arith, length-append ys rest, length-append zs rest) in
    let behind : drop (0 + length zs) (put xs 0 (ys ++ rest)) ≡ rest ++ tail =
    ap (drop (0 + length zs)) (append_assoc ys rest tail) ∙ drop_at ys (rest ++ tail) (0 + length zs) (omega arith) in
    ap (λ (ws : List A). zs ++ ws) behind ∙ ap (λ (k : ℕ). zs ++ (rest ++ drop k xs)) n ∙ sym (append_assoc zs rest (drop (0 + length (zs ++ rest)) xs))

pub files_over : (R : ℕ) (gs hs rest : List File) (m : Memory) → length hs ≡ length gs → Whole R gs → Whole R hs
    → with_files hs (with_files (gs ++ rest) m) ≡ with_files (hs ++ rest) m
files_over R gs hs rest m e whole whole' =
    let entries : length (map entry_of hs) ≡ length (map entry_of gs) = length-map hs entry_of ∙ e ∙ sym (length-map gs entry_of) in
    let bytes : length (areas_bytes hs) ≡ length (areas_bytes gs) = length_whole R hs whole' ∙ rw e (sym (length_whole R gs whole)) in
    rw (
      map-append entry_of gs rest,
      map-append entry_of hs rest,
      areas_append gs rest,
      areas_append hs rest,
      put_over_front m.catalogue (map entry_of gs) (map entry_of hs) (map entry_of rest) entries,
      put_over_front m.areas (areas_bytes gs) (areas_bytes hs) (areas_bytes rest) bytes,
    )
