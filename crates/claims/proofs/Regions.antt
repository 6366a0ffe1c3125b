-- The lent regions after a write: the table's front, an index whose tree is written again, a catalogue emptied up to
-- its capacity; and questions that were all answered yes. Assumes nothing.
use Prim.Native.Nat.{ℕ, zero, suc, ◌+◌, ◌-◌, ◌*◌, ◌^◌, ◌≤◌, ◌<◌}
use mathlib.Core.Path.{◌≡◌, refl}
use mathlib.Core.List.{List, [], ◌∷◌, ◌++◌}
use mathlib.Core.Bool.{Bool, true, false}
use native.Mathlib.Omega.{arith}
use lib.ListN.{length, take, drop, get_or, replicate, length-replicate}
use lib.Seq.{take_at}
use Rattle.codec.specs.Parts.{put}
use Rattle.codec.proofs.PartLaws.{length-put}
use Rattle.model.specs.declared.Entry.{Entry}
use Rattle.model.specs.Answers.{Question, question, first_no}
use Rattle.model.specs.Rows.{Row, table_bytes}
use Rattle.model.specs.Tree.{index_words, with_tree}
use Rattle.model.specs.Memory.{Memory, Lendable, no_entry, capacity_of, emptied}
use Rattle.tree.proofs.Written.{length-with, with_packed, packed_with}
use Rattle.rows.proofs.TableBytes.{length-table-bytes}
use Rattle.model.proofs.AuditLaws.{capacity_entries}

-- ---- questions

-- where no question is answered no, the first is answered yes and none of the rest is answered no
pub asked : (k : ℕ) (b : Bool) (qs : List Question) → first_no (question (suc k) b ∷ qs) ≡ 0 → (b ≡ true) × (first_no qs ≡ 0)
unfolding first_no
asked k true qs e = (refl, e)
asked k false qs e = absurd (omega arith)

-- and so the other way round
pub answered : (k : ℕ) (b : Bool) (qs : List Question) → b ≡ true → first_no qs ≡ 0 → first_no (question (suc k) b ∷ qs) ≡ 0
unfolding first_no
answered k b qs e f = rw (e, f)

pub none-asked : first_no [] ≡ 0
unfolding first_no
none-asked = refl

-- ---- lengths

-- each region is as long as it was
pub record SameLengths (m m' : Memory) : Type 0 where
  pub log_same : length m'.log ≡ length m.log
  pub index_same : length m'.index ≡ length m.index
  pub table_same : length m'.table ≡ length m.table
  pub entries_same : length m'.catalogue ≡ length m.catalogue
  pub areas_same : length m'.areas ≡ length m.areas

-- ---- the table

module _ (R : ℕ) (T : List Row) (xs : List ℕ) (few : length T ≤ R) where
  pub table-front : take (8 * R) (put xs 0 (table_bytes R T)) ≡ table_bytes R T
  table-front = take_at (table_bytes R T) (drop (0 + length (table_bytes R T)) xs) (8 * R) (length-table-bytes R T few)

  pub table-length : 8 * R ≤ length xs → length (put xs 0 (table_bytes R T)) ≡ length xs
  table-length h = length-put xs 0 (table_bytes R T) (omega (arith, length-table-bytes R T few))

-- ---- the index

pub tree_again : (d : ℕ) (keys index : List ℕ) → 2 ≤ d → index_words d (length keys) ≤ length index
    → with_tree d keys (with_tree d keys index) ≡ with_tree d keys index
tree_again d keys index two room =
    packed_with d two keys (with_tree d keys index) (rw (length-with d two keys index room) room) (with_packed d two keys index room)

-- ---- the catalogue

-- an entry of its types
pub record EntryFits (e : Entry) : Type 0 where
  pub time_fits : e.time < 2 ^ 64
  pub rows_fit : e.rows < 2 ^ 32
  pub mark_fits : e.mark < 2 ^ 32

pub no_entry-fits : EntryFits no_entry
no_entry-fits = record { time_fits = omega arith; rows_fit = omega arith; mark_fits = omega arith }

-- and a list of such
pub record EntriesFit (es : List Entry) : Type 0 where
  pub each : (i : ℕ) → EntryFits (get_or es i no_entry)

pub entries_nil : EntriesFit []
entries_nil = record { each = λ i. no_entry-fits }

pub entries_cons : (e : Entry) (es : List Entry) → EntryFits e → EntriesFit es → EntriesFit (e ∷ es)
entries_cons e es h f = record { each = at }
  where
    at : (i : ℕ) → EntryFits (get_or (e ∷ es) i no_entry)
    at zero = h
    at (suc i) = f.each i

pub entries_tail : (e : Entry) (es : List Entry) → EntriesFit (e ∷ es) → EntriesFit es
entries_tail e es f = record { each = λ i. f.each (suc i) }

pub entries_append : (es fs : List Entry) → EntriesFit es → EntriesFit fs → EntriesFit (es ++ fs)
entries_append [] fs f g = g
entries_append (e ∷ es) fs f g = entries_cons e (es ++ fs) (f.each 0) (entries_append es fs (entries_tail e es f) g)

pub entries_take : (n : ℕ) (es : List Entry) → EntriesFit es → EntriesFit (take n es)
entries_take zero es f = entries_nil
entries_take (suc n) [] f = entries_nil
entries_take (suc n) (e ∷ es) f = entries_cons e (take n es) (f.each 0) (entries_take n es (entries_tail e es f))

pub entries_drop : (n : ℕ) (es : List Entry) → EntriesFit es → EntriesFit (drop n es)
entries_drop zero es f = f
entries_drop (suc n) [] f = entries_nil
entries_drop (suc n) (e ∷ es) f = entries_drop n es (entries_tail e es f)

pub entries_put : (es : List Entry) (at : ℕ) (new : List Entry) → EntriesFit es → EntriesFit new → EntriesFit (put es at new)
entries_put es at new f g =
    entries_append (take at es) (new ++ drop (at + length new) es) (entries_take at es f)
    (entries_append new (drop (at + length new) es) g (entries_drop (at + length new) es f))

pub entries_none : (n : ℕ) → EntriesFit (replicate n no_entry)
entries_none zero = entries_nil
entries_none (suc n) = entries_cons no_entry (replicate n no_entry) no_entry-fits (entries_none n)

pub entries_of_lendable : (m : Memory) → Lendable m → EntriesFit m.catalogue
entries_of_lendable m l =
    record { each = λ i. record { time_fits = l.entry_times i; rows_fit = l.entry_rows i; mark_fits = l.entry_marks i } }

module _ (R : ℕ) (m : Memory) where
  pub length-emptied : length (emptied R m) ≡ length m.catalogue
  length-emptied =
      let cap = capacity_of R m in
      length-put m.catalogue 0 (replicate cap no_entry)
      (omega (arith, length-replicate cap no_entry, capacity_entries R (length m.catalogue) (length m.areas)))

  pub emptied-front : take (capacity_of R m) (emptied R m) ≡ replicate (capacity_of R m) no_entry
  emptied-front =
      let cap = capacity_of R m in
      take_at (replicate cap no_entry) (drop (0 + length (replicate cap no_entry)) m.catalogue) cap (length-replicate cap no_entry)

  pub emptied-fits : Lendable m → EntriesFit (emptied R m)
  emptied-fits l = entries_put m.catalogue 0 (replicate (capacity_of R m) no_entry) (entries_of_lendable m l) (entries_none (capacity_of R m))

  -- no file in it, up to the capacity that it has
  pub emptied_rest : (m' : Memory) → m'.catalogue ≡ emptied R m → m'.areas ≡ m.areas
      → drop 0 (take (capacity_of R m') m'.catalogue) ≡ replicate (capacity_of R m' - 0) no_entry
  emptied_rest m' e f =
      let cap : capacity_of R m' ≡ capacity_of R m = rw (e, f, length-emptied) in
      let none : capacity_of R m - 0 ≡ capacity_of R m = omega arith in
      rw (cap, e, none) emptied-front
