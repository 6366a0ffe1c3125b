-- Laws of the two candidates: the entries looked at one by one come to the nearest held tables, and an area of theirs is that of
-- a used entry. Assumes nothing.
use Prim.Native.Nat.{ℕ, suc, ◌+◌, ◌≤◌, ◌<◌, min}
use mathlib.Core.Path.{◌≡◌, refl, sym, ap, ◌∙◌}
use mathlib.Core.List.{List, [], ◌∷◌, ◌++◌}
use mathlib.Core.Bool.{Bool, true, false, cond, ◌&&◌}
use native.Mathlib.Omega.{arith}
use native.Mathlib.Numerals.{add-one}
use native.Mathlib.Nat.{zero-add, add-zero, suc-add, add-suc}
use lib.ListN.{length, take, get_or}
use lib.Seq.{take-suc, length-take-le, take_all}
use lib.Dec.{leb, ltb}
use borrow.Author.Tests.{leb-true, leb-false}
use Rattle.model.specs.declared.Numbers.{Numbers}
use Rattle.model.specs.declared.Entry.{Entry}
use Rattle.model.specs.declared.Held.{Held}
use Rattle.model.specs.Memory.{no_entry}
use Rattle.model.specs.Outset.{empty_table, files_from, latest, earliest}
use Rattle.model.specs.Queries.{answered_time}
use Rattle.catalogue.specs.declared.Candidates.{Candidates}
use Rattle.catalogue.specs.Candidates.{held_now, used_in, candidates_in, PlaceWithin, none_around, nearer_by, around_from}

-- ---- one entry more

pub around_none : (t : ℕ) (c : Candidates) (es : List Entry) → around_from t c 0 (take 0 es) ≡ c
unfolding around_from
around_none t c es = refl

around_append : (t : ℕ) (c : Candidates) (i : ℕ) (es : List Entry) (e : Entry)
    → around_from t c i (es ++ (e ∷ [])) ≡ nearer_by t (around_from t c i es) (i + length es) e
unfolding around_from
around_append t c i [] e = rw add-zero
around_append t c i (x ∷ xs) e = around_append t (nearer_by t c i x) (suc i) xs e ∙ rw (suc-add, ← add-suc)

pub around_next : (t : ℕ) (c : Candidates) (es : List Entry) (i : ℕ) → i < length es
    → nearer_by t (around_from t c 0 (take i es)) i (get_or es i no_entry) ≡ around_from t c 0 (take (i + 1) es)
around_next t c es i h =
    let l : length (take i es) ≡ i = length-take-le i es (omega arith) in
    sym (rw (add-one, take-suc es i no_entry h) (around_append t c 0 (take i es) (get_or es i no_entry) ∙ rw (zero-add, l)))

-- all of them: the latest and the earliest of the files that they hold
around_all : (t : ℕ) (c : Candidates) (i : ℕ) (es : List Entry)
    → around_from t c i es ≡ record { early = latest t c.early (files_from i es); late = earliest t c.late (files_from i es); lent = c.lent }
unfolding around_from latest earliest files_from
around_all t c i [] = refl
around_all t c i (e ∷ es) = around_all t (nearer_by t c i e) (suc i) es

-- ---- the used entries

-- no more entries than are lent are looked at
pub used_looked : (s : Numbers) (es : List Entry) (k : ℕ) → k ≡ min (min 16 s.files) (length es) → take k es ≡ used_in s es
used_looked s es k e = by (leb (min 16 s.files) (length es)) refl
  where
    by : (b : Bool) → leb (min 16 s.files) (length es) ≡ b → take k es ≡ used_in s es
    by true q = let l : k ≡ min 16 s.files = omega (arith, leb-true (min 16 s.files) (length es) q) in ap (λ (n : ℕ). take n es) l
    by false q =
        let l : k ≡ length es = omega (arith, leb-false (min 16 s.files) (length es) q) in
        take_all k es (omega arith) ∙ sym (take_all (min 16 s.files) es (omega (arith, leb-false (min 16 s.files) (length es) q)))

pub used_few : (s : Numbers) (es : List Entry) → (length (used_in s es) ≤ 16) × (length (used_in s es) ≤ s.files)
used_few s es = by (leb (min 16 s.files) (length es)) refl
  where
    by : (b : Bool) → leb (min 16 s.files) (length es) ≡ b → (length (used_in s es) ≤ 16) × (length (used_in s es) ≤ s.files)
    by true q = let l = length-take-le (min 16 s.files) es (leb-true (min 16 s.files) (length es) q) in (omega arith, omega arith)
    by false q =
        let l = ap (λ (xs : List Entry). length xs) (take_all (min 16 s.files) es (omega (arith, leb-false (min 16 s.files) (length es) q))) in
        (omega (arith, leb-false (min 16 s.files) (length es) q), omega (arith, leb-false (min 16 s.files) (length es) q))

-- where the numbers say so many as there can be, these are all
pub used_all : (s : Numbers) (es : List Entry) → s.files ≤ 16 → used_in s es ≡ take s.files es
used_all s es h = let e : min 16 s.files ≡ s.files = omega arith in rw e

pub candidates_are : (s : Numbers) (t : ℕ) (es : List Entry) (k at : ℕ) → k ≡ min (min 16 s.files) (length es) → at ≡ answered_time s.last t
    → around_from at (none_around s (length es)) 0 (take k es) ≡ candidates_in s t es
candidates_are s t es k at e f =
    rw (used_looked s es k e, f) (around_all (answered_time s.last t) (none_around s (length es)) 0 (used_in s es))

-- a time that is answered as itself has the same candidates
pub candidates_answered : (s : Numbers) (t : ℕ) (es : List Entry) → candidates_in s (answered_time s.last t) es ≡ candidates_in s t es
unfolding answered_time
candidates_answered s t es = let e : min (min t s.last) s.last ≡ min t s.last = omega arith in rw e

-- ---- the area of a candidate is that of one of the used entries

within_cond : (k i : ℕ) (b : Bool) (e : Entry) (h : Held) → i < k → PlaceWithin k h.place
    → PlaceWithin k (cond b (get_or (files_from i (e ∷ [])) 0 empty_table) h).place
unfolding PlaceWithin files_from
within_cond k i true e h p q = p
within_cond k i false e h p q = q

pub latest_within : (k t : ℕ) (best : Held) (i : ℕ) (es : List Entry) → PlaceWithin k best.place → i + length es ≤ k
    → PlaceWithin k (latest t best (files_from i es)).place
unfolding latest files_from
latest_within k t best i [] p h = p
latest_within k t best i (e ∷ es) p h =
    latest_within k t (cond (leb e.time t && ltb best.time e.time) (get_or (files_from i (e ∷ [])) 0 empty_table) best) (suc i) es (within_cond k i (leb e.time t && ltb best.time e.time) e best (omega arith) p) (omega arith)

pub earliest_within : (k t : ℕ) (best : Held) (i : ℕ) (es : List Entry) → PlaceWithin k best.place → i + length es ≤ k
    → PlaceWithin k (earliest t best (files_from i es)).place
unfolding earliest files_from
earliest_within k t best i [] p h = p
earliest_within k t best i (e ∷ es) p h =
    earliest_within k t (cond (leb t e.time && leb e.time best.time) (get_or (files_from i (e ∷ [])) 0 empty_table) best) (suc i) es (within_cond k i (leb t e.time && leb e.time best.time) e best (omega arith) p) (omega arith)

pub candidates_within : (s : Numbers) (t : ℕ) (es : List Entry)
    → PlaceWithin s.files (candidates_in s t es).early.place × PlaceWithin s.files (candidates_in s t es).late.place
unfolding PlaceWithin
candidates_within s t es =
    let few : 0 + length (used_in s es) ≤ s.files = omega (arith, (used_few s es).1) in
    (latest_within s.files _ empty_table 0 (used_in s es) tt few, earliest_within s.files _ (held_now s) 0 (used_in s es) tt few)
