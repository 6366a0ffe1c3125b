-- Lists of count files, over any entries and areas: the files that are read from them in order, the bytes of their areas, and
-- those that stay. Assumes nothing.
use Prim.Native.Nat.{ℕ, zero, suc, ◌+◌, ◌-◌, ◌*◌, ◌≤◌}
use mathlib.Core.Path.{◌≡◌, refl, ap, ◌∙◌}
use mathlib.Core.List.{List, [], ◌∷◌, ◌++◌, append_assoc, map}
use mathlib.Core.Bool.{Bool, true, false, not, cond}
use native.Mathlib.Omega.{arith}
use native.Mathlib.Nat.{add-zero}
use lib.ListN.{length, take, drop, replicate, length-append, length-replicate, replicate-append-replicate}
use lib.Seq.{take-add, drop-drop, length-take-le}
use Rattle.codec.specs.Parts.{zeros, put, part}
use Rattle.codec.proofs.PartLaws.{length_part, length-put, drop-put}
use Rattle.model.specs.declared.Entry.{Entry}
use Rattle.model.specs.Memory.{State}
use Rattle.model.specs.Files.{File, files_in, files_of, no_file, areas_bytes, entry_of, staying, closed_up}
use Rattle.model.specs.Promises.{Beyond}

-- ---- entries and areas of files one behind the other

pub map-append : {A B : Type 0} (f : A → B) (xs ys : List A) → map f (xs ++ ys) ≡ map f xs ++ map f ys
map-append f [] ys = refl
map-append f (x ∷ xs) ys = rw (map-append f xs ys)

pub map_replicate : {A B : Type 0} (f : A → B) (n : ℕ) (x : A) → map f (replicate n x) ≡ replicate n (f x)
map_replicate f zero x = refl
map_replicate f (suc n) x = rw (map_replicate f n x)

pub areas_append : (fs gs : List File) → areas_bytes (fs ++ gs) ≡ areas_bytes fs ++ areas_bytes gs
unfolding areas_bytes
areas_append [] gs = refl
areas_append (f ∷ fs) gs = rw (areas_append fs gs, append_assoc)

pub areas_none : (R n : ℕ) → areas_bytes (replicate n (no_file R)) ≡ zeros (8 * R * n)
unfolding areas_bytes
areas_none R zero = let none : 0 ≡ 8 * R * 0 = omega arith in ap zeros none
areas_none R (suc n) =
    let more : 8 * R + 8 * R * n ≡ 8 * R * suc n = omega arith in
    rw (areas_none R n) (replicate-append-replicate (8 * R) (8 * R * n) 0 ∙ ap zeros more)

-- ---- files read from entries and areas

module _ (R : ℕ) (areas : List ℕ) where
  pub length_files_in : (i : ℕ) (es : List Entry) → length (files_in R areas i es) ≡ length es
  unfolding files_in
  length_files_in i [] = refl
  length_files_in i (e ∷ es) = ap suc (length_files_in (suc i) es)

  pub entries_files_in : (i : ℕ) (es : List Entry) → map entry_of (files_in R areas i es) ≡ es
  unfolding files_in
  entries_files_in i [] = refl
  entries_files_in i (e ∷ es) = ap (λ (xs : List Entry). e ∷ xs) (entries_files_in (suc i) es)

  pub files_in_append : (i : ℕ) (es gs : List Entry) → files_in R areas i (es ++ gs) ≡ files_in R areas i es ++ files_in R areas (i + length es) gs
  unfolding files_in
  files_in_append i [] gs = rw add-zero
  files_in_append i (e ∷ es) gs =
      let next : suc i + length es ≡ i + suc (length es) = omega arith in
      rw (files_in_append (suc i) es gs, next)

  -- the bytes of the areas are the part of the lent areas where they lie
  pub areas_files_in : (i : ℕ) (es : List Entry) → areas_bytes (files_in R areas i es) ≡ part (8 * R * i) (8 * R * length es) areas
  unfolding files_in areas_bytes
  areas_files_in i [] = let none : 8 * R * 0 ≡ 0 = omega arith in rw none
  areas_files_in i (e ∷ es) =
      let next : 8 * R * suc i ≡ 8 * R * i + 8 * R = omega arith in
      let long : 8 * R * suc (length es) ≡ 8 * R + 8 * R * length es = omega arith in
      rw (areas_files_in (suc i) es, next, long, take-add (8 * R) (8 * R * length es) (drop (8 * R * i) areas), drop-drop (8 * R) (8 * R * i) areas)

-- a state holds as many files as its number says
pub length_files_of : (st : State) → st.numbers.files ≤ length st.memory.catalogue → length (files_of st) ≡ st.numbers.files
length_files_of st few =
    let m = st.memory in
    length_files_in st.numbers.limit m.areas 0 (take st.numbers.files m.catalogue) ∙ length-take-le st.numbers.files m.catalogue few

-- ---- whole areas

unfoldable pub Whole : ℕ → List File → Type 0
Whole R [] = Unit
Whole R (f ∷ fs) = (length f.area ≡ 8 * R) × Whole R fs

pub whole_files_in : (R : ℕ) (areas : List ℕ) (i : ℕ) (es : List Entry) → 8 * R * (i + length es) ≤ length areas → Whole R (files_in R areas i es)
unfolding files_in Whole
whole_files_in R areas i [] h = tt
whole_files_in R areas i (e ∷ es) h =
    (length_part (8 * R * i) (8 * R) areas (omega arith), whole_files_in R areas (suc i) es (omega arith))

pub whole_append : (R : ℕ) (fs gs : List File) → Whole R fs → Whole R gs → Whole R (fs ++ gs)
unfolding Whole
whole_append R [] gs h k = k
whole_append R (f ∷ fs) gs h k = (h.0, whole_append R fs gs h.1 k)

pub whole-none : (R n : ℕ) → Whole R (replicate n (no_file R))
unfolding Whole
whole-none R zero = tt
whole-none R (suc n) = (length-replicate (8 * R) 0, whole-none R n)

pub length_whole : (R : ℕ) (fs : List File) → Whole R fs → length (areas_bytes fs) ≡ 8 * R * length fs
unfolding Whole areas_bytes
length_whole R [] h = omega arith
length_whole R (f ∷ fs) h = length-append f.area (areas_bytes fs) ∙ rw (h.0, length_whole R fs h.1) (omega arith)

-- ---- files that stay

module _ (stays : Entry → Bool) where
  pub whole-staying : (R : ℕ) (fs : List File) → Whole R fs → Whole R (staying stays fs)
  unfolding Whole staying
  whole-staying R [] h = tt
  whole-staying R (f ∷ fs) h = by (stays f.entry) (whole-staying R fs h.1)
    where
      by : (p : Bool) → Whole R (staying stays fs) → Whole R (cond p (f ∷ staying stays fs) (staying stays fs))
      by true k = (h.0, k)
      by false k = k

  pub staying_next : (fs : List File) (f : File) → staying stays (fs ++ (f ∷ [])) ≡ cond (stays f.entry) (staying stays fs ++ (f ∷ [])) (staying stays fs)
  unfolding staying
  staying_next [] f = refl
  staying_next (x ∷ xs) f = by (stays x.entry) (stays f.entry) (staying_next xs f)
    where
      by : (p q : Bool) → staying stays (xs ++ (f ∷ [])) ≡ cond q (staying stays xs ++ (f ∷ [])) (staying stays xs)
          → cond p (x ∷ staying stays (xs ++ (f ∷ []))) (staying stays (xs ++ (f ∷ [])))
          ≡ cond q (cond p (x ∷ staying stays xs) (staying stays xs) ++ (f ∷ [])) (cond p (x ∷ staying stays xs) (staying stays xs))
      by true true h = rw h
      by true false h = rw h
      by false true h = h
      by false false h = h

  pub length-staying : (fs : List File) → length (staying stays fs) ≤ length fs
  unfolding staying
  length-staying [] = omega arith
  length-staying (f ∷ fs) = by (stays f.entry) (length-staying fs)
    where
      by : (p : Bool) → length (staying stays fs) ≤ length fs → length (cond p (f ∷ staying stays fs) (staying stays fs)) ≤ suc (length fs)
      by true h = omega arith
      by false h = omega arith

-- those that go and those that stay are all
pub length_going : (goes : Entry → Bool) (fs : List File) → length (staying goes fs) + length (staying (λ e. not (goes e)) fs) ≡ length fs
unfolding staying
length_going goes [] = refl
length_going goes (f ∷ fs) = by (goes f.entry) (length_going goes fs)
  where
    by : (p : Bool) → length (staying goes fs) + length (staying (λ e. not (goes e)) fs) ≡ length fs
        → length (cond p (f ∷ staying goes fs) (staying goes fs)) + length (cond (not p) (f ∷ staying (λ e. not (goes e)) fs) (staying (λ e. not (goes e)) fs)) ≡ suc (length fs)
    by true h = omega arith
    by false h = omega arith

pub length_closed_up : (R files : ℕ) (fs : List File) → length fs ≤ files → length (closed_up R files fs) ≡ files
length_closed_up R files fs h =
    length-append fs (replicate (files - length fs) (no_file R)) ∙ omega (arith, length-replicate (files - length fs) (no_file R))

pub whole_closed_up : (R files : ℕ) (fs : List File) → Whole R fs → Whole R (closed_up R files fs)
whole_closed_up R files fs h = whole_append R fs (replicate (files - length fs) (no_file R)) h (whole-none R (files - length fs))

-- ---- files written in front of catalogue and areas

pub front_beyond : {A : Type 0} (k : ℕ) (xs ys : List A) → k ≤ length xs → length ys ≡ k → Beyond k xs (put xs 0 ys)
front_beyond k xs ys h e =
    record { same_length = length-put xs 0 ys (rw e (omega arith)); same_rest = drop-put k xs 0 ys (rw e (omega arith)) (omega arith) }
