-- The count files among the outsets held: one of time t exactly where a file of that time is kept, in every memory. Assumes nothing.
use Prim.Native.Nat.{ℕ, suc}
use mathlib.Core.Path.{◌≡◌, refl, sym, ap, subst, ◌∙◌}
use mathlib.Core.Logic.{◌⊎◌, inl, inr, ◌↔◌}
use mathlib.Core.List.Memᴰ
use mathlib.Core.List.{List, [], ◌∷◌, ◌++◌, Memᴰ}
use mathlib.Core.Bool.{Bool, true, false, ◌||◌, false≢true}
use lib.ListN.{take}
use lib.Dec.{eqb}
use borrow.Author.Tests.{eqb-true, eq-eqb}
use Rattle.model.specs.declared.Entry.{Entry}
use Rattle.model.specs.declared.Held.{Held}
use Rattle.model.specs.declared.Place.{Place}
use Rattle.model.specs.declared.Place.TheVariants.{Empty, Area, Current}
use Rattle.model.specs.Memory.{State}
use Rattle.model.specs.Outset.{empty_table, current_table, files_from, files_held}
use Rattle.model.specs.Files.{files_in, files_of, is_kept}
use Rattle.model.specs.Demands.{FileHeld}
use Rattle.model.proofs.Compare.{or_right}

abbrev file_held : (t area rows : ℕ) → Held
file_held t area rows = record { time = t; place = Area area; rows = rows }

-- a count file of time t is among these
record Among (t : ℕ) (hs : List Held) : Type 0 where
  area : ℕ
  rows : ℕ
  among : Memᴰ (file_held t area rows) hs

module _ (R : ℕ) (areas : List ℕ) where
  among-of-kept : (t i j : ℕ) (es : List Entry) → is_kept t (files_in R areas i es) ≡ true → Among t (files_from j es)
  unfolding files_in is_kept files_from
  among-of-kept t i j [] k = absurd (false≢true k)
  among-of-kept t i j (e ∷ es) k = by (among-of-kept t (suc i) (suc j) es) (eqb e.time t) refl k
    where
      later : Among t (files_from (suc j) es) → Among t (files_from j (e ∷ es))
      later h = record { area = h.area; rows = h.rows; among = Memᴰ.tail h.among }

      by : (is_kept t (files_in R areas (suc i) es) ≡ true → Among t (files_from (suc j) es))
          → (q : Bool) → eqb e.time t ≡ q → (q || is_kept t (files_in R areas (suc i) es)) ≡ true → Among t (files_from j (e ∷ es))
      by rest true p g =
          record { area = j; rows = e.rows; among = Memᴰ.head (ap (λ (u : ℕ). file_held u j e.rows) (sym (eqb-true e.time t p))) }
      by rest false p g = later (rest g)

  pub kept_of_member : (h : Held) (i j : ℕ) (es : List Entry) → Memᴰ h (files_from j es) → is_kept h.time (files_in R areas i es) ≡ true
  unfolding files_in is_kept files_from
  kept_of_member h i j [] m = absurd (Memᴰ.not-nil m)
  kept_of_member h i j (e ∷ es) m = by (kept_of_member h (suc i) (suc j) es) (Memᴰ.cases_cons m)
    where
      by : (Memᴰ h (files_from (suc j) es) → is_kept h.time (files_in R areas (suc i) es) ≡ true)
          → (h ≡ file_held e.time j e.rows) ⊎ Memᴰ h (files_from (suc j) es)
          → (eqb e.time h.time || is_kept h.time (files_in R areas (suc i) es)) ≡ true
      by rest (inl q) = let same : e.time ≡ h.time = ap (λ (x : Held). x.time) (sym q) in rw (eq-eqb e.time h.time same)
      by rest (inr n) = or_right (eqb e.time h.time) (is_kept h.time (files_in R areas (suc i) es)) (rest n)

module _ (st : State) (t : ℕ) where
  abbrev used : List Entry
  used = take st.numbers.files st.memory.catalogue

  pub held_of_kept : is_kept t (files_of st) ≡ true → FileHeld st t
  held_of_kept k =
      let x = among-of-kept st.numbers.limit st.memory.areas t 0 0 used k in
      record { area = x.area; rows = x.rows; is_held = Memᴰ.tail (Memᴰ.append_left (current_table st ∷ []) x.among) }

  -- neither the empty table nor the current one lies in an area
  no-area : (p : Place) → Bool
  no-area Empty = true
  no-area (Area i) = false
  no-area Current = true

  pub kept_of_held : FileHeld st t → is_kept t (files_of st) ≡ true
  unfolding no-area
  kept_of_held x = by_cases (Memᴰ.cases_cons x.is_held)
    where
      h : Held
      h = file_held t x.area x.rows

      none : (k : Held) → no-area k.place ≡ true → h ≡ k → is_kept t (files_of st) ≡ true
      none k e q = absurd (false≢true (subst (λ (y : Held). false ≡ no-area y.place) q refl ∙ e))

      by_place : Memᴰ h (files_held st) ⊎ Memᴰ h (current_table st ∷ []) → is_kept t (files_of st) ≡ true
      by_place (inl n) = kept_of_member st.numbers.limit st.memory.areas h 0 0 used n
      by_place (inr n) = none (current_table st) refl (Memᴰ.eq_of_singleton n)

      by_cases : (h ≡ empty_table) ⊎ Memᴰ h (files_held st ++ (current_table st ∷ [])) → is_kept t (files_of st) ≡ true
      by_cases (inl q) = none empty_table refl q
      by_cases (inr n) = by_place (Memᴰ.append_cases (files_held st) n)

  pub kept_iff_held : (is_kept t (files_of st) ≡ true) ↔ FileHeld st t
  kept_iff_held = (held_of_kept, kept_of_held)
