-- The part that a view's answer names in numbers is the part that the call hands back. Assumes nothing.
use Rattle.std.specs.Prelude.{Ok, Err}
use Prim.Native.Nat.{ℕ, ◌+◌, ◌-◌, ◌*◌, ◌≤◌, min}
use mathlib.Core.Path.{◌≡◌, refl, sym, ◌∙◌}
use mathlib.Core.List.{List, []}
use mathlib.Core.Bool.{Bool, true, false, cond}
use native.Mathlib.Omega.{arith}
use lib.ListN.{length, take, drop, length-drop, drop_of_length-le}
use lib.Seq.{take_all}
use lib.Dec.{eqb, leb}
use borrow.Author.Tests.{leb-true, leb-false}
use Rattle.codec.specs.Parts.{part}
use Rattle.model.specs.declared.Place.{Place}
use Rattle.model.specs.declared.Place.TheVariants.{Empty, Area, Current}
use Rattle.model.specs.declared.OutsetSaid.{OutsetSaid}
use Rattle.model.specs.Answers.{Answer}
use Rattle.model.specs.Queries.{rows_part}
use Rattle.tables.specs.Parts.{lent, viewed_part}
use Rattle.numbered.specs.declared.outset.Span.{Span}
use Rattle.numbered.specs.Answers.{place_out, span_of, view_out}

-- no more is taken than is there
take_cut : (k : ℕ) (xs : List ℕ) → take (min k (length xs)) xs ≡ take k xs
take_cut k xs = by (leb k (length xs)) refl
  where
    by : (b : Bool) → leb k (length xs) ≡ b → take (min k (length xs)) xs ≡ take k xs
    by true e =
        let m : min k (length xs) ≡ k = omega (arith, leb-true k (length xs) e) in
        rw m
    by false e =
        let m : min k (length xs) ≡ length xs = omega (arith, leb-false k (length xs) e) in
        rw m (take_all (length xs) xs (omega arith) ∙ sym (take_all k xs (omega (arith, leb-false k (length xs) e))))

part_cut : (at k : ℕ) (xs : List ℕ) → part (min at (length xs)) (min k (length xs - min at (length xs))) xs ≡ part at k xs
part_cut at k xs = by (leb at (length xs)) refl
  where
    by : (b : Bool) → leb at (length xs) ≡ b → part (min at (length xs)) (min k (length xs - min at (length xs))) xs ≡ part at k xs
    by true e =
        let m : min at (length xs) ≡ at = omega (arith, leb-true at (length xs) e) in
        rw (m, ← length-drop at xs) (take_cut k (drop at xs))
    by false e =
        let m : min at (length xs) ≡ length xs = omega (arith, leb-false at (length xs) e) in
        let none : drop (length xs) xs ≡ [] = drop_of_length-le xs {i = length xs} (omega arith) in
        let none' : drop at xs ≡ [] = drop_of_length-le xs {i = at} (omega (arith, leb-false at (length xs) e)) in
        let zero_left : length xs - length xs ≡ 0 = omega arith in
        rw (m, none, none', zero_left) (take_cut k [])

module _ (R : ℕ) (areas current : List ℕ) where
  -- the part that rows at a place are
  abbrev span : Place → ℕ → Span
  span = span_of R (length areas) (length current)

  rows-part : (place : Place) (rows : ℕ) → rows_part R (lent areas current) place rows
      ≡ part (span place rows).start (span place rows).length (cond (eqb (place_out place) 1) areas current)
  unfolding rows_part span_of place_out
  rows-part Empty rows = refl
  rows-part (Area i) rows = sym (part_cut (8 * R * i) (8 * rows) areas)
  rows-part Current rows = sym (take_cut (8 * rows) current)

  rows_within : (place : Place) (rows : ℕ) → (span place rows).start + (span place rows).length ≤ length (cond (eqb (place_out place) 1) areas current)
  unfolding span_of place_out
  rows_within Empty rows = omega arith
  rows_within (Area i) rows = omega arith
  rows_within Current rows = omega arith

  pub span-part : (answer : Answer OutsetSaid) → let r = view_out R (length areas) (length current) answer in
      viewed_part R areas current answer ≡ part r.start r.length (cond (eqb r.place 1) areas current)
  unfolding view_out viewed_part
  span-part (Ok said) = rows-part said.place said.rows
  span-part (Err why) = refl

  -- on any memory it lies within its region
  pub span_within : (answer : Answer OutsetSaid) → let r = view_out R (length areas) (length current) answer in
      r.start + r.length ≤ length (cond (eqb r.place 1) areas current)
  unfolding view_out
  span_within (Ok said) = rows_within said.place said.rows
  span_within (Err why) = omega arith
