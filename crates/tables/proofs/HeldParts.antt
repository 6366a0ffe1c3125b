-- The part of the lent memory that a candidate's rows lie in: on any memory that question 1 passes it has 8 bytes for each of
-- them, up to the limit. Assumes nothing.
use Prim.Native.Nat.{ℕ, suc, ◌+◌, ◌*◌, ◌≤◌, ◌<◌, min}
use mathlib.Core.Path.{◌≡◌}
use mathlib.Core.Logic.{◌⊎◌, inl, inr}
use mathlib.Core.List.Memᴰ
use mathlib.Core.List.{List, [], ◌∷◌, Memᴰ}
use native.Mathlib.Omega.{arith}
use native.Mathlib.Nat.{mul-le-mul_left}
use lib.ListN.{length}
use lib.Seq.{length-take-le}
use Rattle.codec.proofs.PartLaws.{length_part}
use Rattle.model.specs.declared.Numbers.{Numbers}
use Rattle.model.specs.declared.Entry.{Entry}
use Rattle.model.specs.declared.Held.{Held}
use Rattle.model.specs.declared.Place.TheVariants.{Area}
use Rattle.model.specs.Outset.{empty_table, files_from}
use Rattle.model.specs.Queries.{rows_part}
use Rattle.model.proofs.NearestLaws.{latest_member, earliest_member}
use Rattle.catalogue.specs.Candidates.{held_now, used_in, candidates_in}
use Rattle.catalogue.proofs.CandidateLaws.{used_few}
use Rattle.tables.specs.Parts.{lent}

-- the part has as many bytes as the rows take, cut to the limit
abbrev Whole : ℕ → (areas current : List ℕ) → Held → Type 0
Whole R areas current h = length (rows_part R (lent areas current) h.place (min h.rows R)) ≡ 8 * min h.rows R

module _ (s : Numbers) (areas current : List ℕ) (long_table : 8 * s.limit ≤ length current) (areas_long : 8 * s.limit * s.files ≤ length areas) where
  whole-empty : Whole s.limit areas current empty_table
  unfolding rows_part
  whole-empty = omega arith

  whole-current : Whole s.limit areas current (held_now s)
  unfolding rows_part
  whole-current = length-take-le (8 * min s.live s.limit) current (omega arith)

  -- area i ends where the next begins
  whole-file : (i : ℕ) (e : Entry) → i < s.files → Whole s.limit areas current (record { time = e.time; place = Area i; rows = e.rows })
  unfolding rows_part
  whole-file i e h =
      let R = s.limit in
      let ends : 8 * R * suc i ≤ 8 * R * s.files = mul-le-mul_left (8 * R) h in
      length_part (8 * R * i) (8 * min e.rows R) areas (omega arith)

  whole-files : (i : ℕ) (es : List Entry) → i + length es ≤ s.files → (h : Held) → Memᴰ h (files_from i es) → Whole s.limit areas current h
  unfolding files_from
  whole-files i [] few h m = absurd (Memᴰ.not-nil m)
  whole-files i (e ∷ es) few h m = by (λ n. whole-files (suc i) es (omega arith) h n) (Memᴰ.cases_cons m)
    where
      by : (Memᴰ h (files_from (suc i) es) → Whole s.limit areas current h) → (h ≡ record { time = e.time; place = Area i; rows = e.rows }) ⊎ Memᴰ h (files_from (suc i) es)
          → Whole s.limit areas current h
      by rest (inl q) = rw q (whole-file i e (omega arith))
      by rest (inr n) = rest n

  -- one of the used files, or the table that stands for none
  whole-one : (none : Held) (es : List Entry) → Whole s.limit areas current none → (h : Held) → Memᴰ h (none ∷ files_from 0 (used_in s es)) → Whole s.limit areas current h
  whole-one none es w h m = by (Memᴰ.cases_cons m)
    where
      by : (h ≡ none) ⊎ Memᴰ h (files_from 0 (used_in s es)) → Whole s.limit areas current h
      by (inl q) = rw q w
      by (inr n) = whole-files 0 (used_in s es) (omega (arith, (used_few s es).1)) h n

  pub candidate-whole : (t : ℕ) (es : List Entry) (h : Held) → (h ≡ (candidates_in s t es).early) ⊎ (h ≡ (candidates_in s t es).late) → Whole s.limit areas current h
  candidate-whole t es h (inl q) = rw q (whole-one empty_table es whole-empty _ (latest_member _ empty_table (files_from 0 (used_in s es))))
  candidate-whole t es h (inr q) = rw q (whole-one (held_now s) es whole-current _ (earliest_member _ (held_now s) (files_from 0 (used_in s es))))
