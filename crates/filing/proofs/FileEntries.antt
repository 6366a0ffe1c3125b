-- Files by their entries, whatever their areas hold: which time is kept, where a file goes, which stay. Assumes nothing.
use Prim.Native.Nat.{ℕ, suc, ◌+◌, ◌-◌, ◌*◌, ◌≤◌}
use mathlib.Core.Path.{◌≡◌, refl, sym, ap, ◌∙◌}
use mathlib.Core.List.{List, [], ◌∷◌, ◌++◌, map}
use mathlib.Core.Bool.{Bool, true, false, not, cond, ◌&&◌, ◌||◌}
use native.Mathlib.Omega.{arith}
use native.Mathlib.Nat.{add-zero}
use lib.ListN.{length, take, drop, replicate, length-map}
use lib.Dec.{leb, ltb, eqb, leb-suc-suc}
use borrow.Author.Tests.{ltb-true, ltb-false, leb-true, leb-false, eqb-false, lt-ltb, ne_eqb}
use Rattle.model.specs.declared.Entry.{Entry}
use Rattle.model.specs.declared.Held.{Held}
use Rattle.model.specs.declared.Place.TheVariants.{Area}
use Rattle.model.specs.Memory.{no_entry}
use Rattle.model.specs.Outset.{empty_table, files_from, latest}
use Rattle.model.specs.Files.{File, files_in, no_file, entry_of, is_kept, file_in, staying, closed_up, not_of}
use Rattle.model.proofs.FileLaws.{map-append, map_replicate}
use Rattle.catalogue.specs.Entries.{place_for, entries_staying}
use Rattle.catalogue.proofs.EntryTurns.{staying_fewer}

-- ---- which time is kept

or_false : (b : Bool) → (b || false) ≡ b
or_false true = refl
or_false false = refl

-- one held table more: the latest up to t is of t where it was, or where that one is
later_of_lem : (t best e : ℕ) → best ≤ t → (K : Bool)
    → (eqb (cond (leb e t && ltb best e) e best) t || K) ≡ (eqb best t || (eqb e t || K))
later_of_lem t best e h K = by (leb e t) (ltb best e) refl refl
  where
    or-other : (b : Bool) → eqb best t ≡ b → e ≤ best → (b || K) ≡ (b || (eqb e t || K))
    or-other true q l = refl
    or-other false q l = rw (ne_eqb e t (λ k. eqb-false best t q (omega arith)))

    by : (p q : Bool) → leb e t ≡ p → ltb best e ≡ q → (eqb (cond (p && q) e best) t || K) ≡ (eqb best t || (eqb e t || K))
    by true true u v = rw (ne_eqb best t (λ k. omega (arith, leb-true e t u, ltb-true best e v)))
    by true false u v = or-other (eqb best t) refl (ltb-false best e v)
    by false q u v = rw (ne_eqb e t (λ k. omega (arith, leb-false e t u)))

later_upto : (t best e : ℕ) → best ≤ t → cond (leb e t && ltb best e) e best ≤ t
later_upto t best e h = by (leb e t) (ltb best e) refl
  where
    by : (p q : Bool) → leb e t ≡ p → cond (p && q) e best ≤ t
    by true true u = leb-true e t u
    by true false u = h
    by false q u = h

time_of_lem : (b : Bool) (x y : Held) → (cond b x y).time ≡ cond b x.time y.time
time_of_lem true x y = refl
time_of_lem false x y = refl

module _ (R : ℕ) (areas : List ℕ) where
  -- the latest held table up to a time, after a first one
  early-kept : (t : ℕ) (best : Held) (i : ℕ) (es : List Entry) → best.time ≤ t
      → eqb (latest t best (files_from i es)).time t ≡ (eqb best.time t || is_kept t (files_in R areas i es))
  unfolding latest files_from is_kept files_in
  early-kept t best i [] h = sym (or_false (eqb best.time t))
  early-kept t best i (e ∷ es) h =
      let held : Held = record { time = e.time; place = Area i; rows = e.rows } in
      let b : Bool = leb e.time t && ltb best.time e.time in
      let is : (cond b held best).time ≡ cond b e.time best.time = time_of_lem b held best in
      early-kept t (cond b held best) (suc i) es (rw is (later_upto t best.time e.time h))
      ∙ rw is (later_of_lem t best.time e.time h (is_kept t (files_in R areas (suc i) es)))

  -- a time is kept where the nearest held table at or before it is of it
  pub latest-kept : (t i : ℕ) (es : List Entry) → (t ≡ 0 → ⊥) → eqb (latest t empty_table (files_from i es)).time t ≡ is_kept t (files_in R areas i es)
  latest-kept t i es some = early-kept t empty_table i es (omega arith) ∙ rw (ne_eqb 0 t (λ e. some (sym e)))

  -- and where fewer files than all are of another time
  pub fewer_kept : (t i : ℕ) (es : List Entry) → ltb (length (entries_staying (not_of t) es)) (length es) ≡ is_kept t (files_in R areas i es)
  unfolding entries_staying is_kept files_in
  fewer_kept t i [] = refl
  fewer_kept t i (e ∷ es) = by (eqb e.time t) (fewer_kept t (suc i) es)
    where
      by : (b : Bool) → ltb (length (entries_staying (not_of t) es)) (length es) ≡ is_kept t (files_in R areas (suc i) es)
          → ltb (length (cond (not b) (e ∷ entries_staying (not_of t) es) (entries_staying (not_of t) es))) (suc (length es))
          ≡ (b || is_kept t (files_in R areas (suc i) es))
      by true h = lt-ltb (length (entries_staying (not_of t) es)) (suc (length es)) (omega (arith, staying_fewer (not_of t) es))
      by false h = leb-suc-suc (suc (length (entries_staying (not_of t) es))) (length es) ∙ h

  -- ---- where a file goes

  pub file_in_at : (f : File) (i : ℕ) (es : List Entry)
      → let p = place_for f.entry.time es in file_in f (files_in R areas i es) ≡ files_in R areas i (take p es) ++ (f ∷ files_in R areas (i + p) (drop p es))
  unfolding file_in files_in place_for
  file_in_at f i [] = refl
  file_in_at f i (e ∷ es) = by (ltb e.time f.entry.time) (file_in_at f (suc i) es)
    where
      p : ℕ
      p = place_for f.entry.time es

      x : File
      x = record { entry = e; area = take (8 * R) (drop (8 * R * i) areas) }

      by : (b : Bool) → file_in f (files_in R areas (suc i) es) ≡ files_in R areas (suc i) (take p es) ++ (f ∷ files_in R areas (suc i + p) (drop p es))
          → cond b (x ∷ file_in f (files_in R areas (suc i) es)) (f ∷ (x ∷ files_in R areas (suc i) es))
          ≡ files_in R areas i (take (cond b (suc p) 0) (e ∷ es)) ++ (f ∷ files_in R areas (i + cond b (suc p) 0) (drop (cond b (suc p) 0) (e ∷ es)))
      by true h = let next : suc i + p ≡ i + suc p = omega arith in rw (h, next)
      by false h = rw add-zero

  -- ---- which stay

  entries-staying : (stays : Entry → Bool) (i : ℕ) (es : List Entry) → map entry_of (staying stays (files_in R areas i es)) ≡ entries_staying stays es
  unfolding staying files_in entries_staying
  entries-staying stays i [] = refl
  entries-staying stays i (e ∷ es) = by (stays e) (entries-staying stays (suc i) es)
    where
      x : File
      x = record { entry = e; area = take (8 * R) (drop (8 * R * i) areas) }

      by : (b : Bool) → map entry_of (staying stays (files_in R areas (suc i) es)) ≡ entries_staying stays es
          → map entry_of (cond b (x ∷ staying stays (files_in R areas (suc i) es)) (staying stays (files_in R areas (suc i) es)))
          ≡ cond b (e ∷ entries_staying stays es) (entries_staying stays es)
      by true h = rw h
      by false h = h

  pub count_staying : (stays : Entry → Bool) (es : List Entry) → length (staying stays (files_in R areas 0 es)) ≡ length (entries_staying stays es)
  count_staying stays es = sym (length-map (staying stays (files_in R areas 0 es)) entry_of) ∙ ap length (entries-staying stays 0 es)

  pub entries_closed_lem : (stays : Entry → Bool) (files : ℕ) (es : List Entry)
      → map entry_of (closed_up R files (staying stays (files_in R areas 0 es))) ≡ entries_staying stays es ++ replicate (files - length (entries_staying stays es)) no_entry
  entries_closed_lem stays files es =
      let left = staying stays (files_in R areas 0 es) in
      map-append entry_of left (replicate (files - length left) (no_file R))
      ∙ rw (entries-staying stays 0 es, map_replicate entry_of (files - length left) (no_file R), count_staying stays es)
