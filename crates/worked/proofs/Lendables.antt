-- Lent memory that is written out is lendable: bytes, words and entries are in their ranges by a test that computes.
-- Assumes nothing.
use Prim.Native.Nat.{ℕ, zero, suc, ◌^◌, ◌<◌}
use mathlib.Core.Path.{subst}
use mathlib.Core.List.{List, [], ◌∷◌, map}
use mathlib.Core.Bool.{Bool, true, ◌&&◌}
use lib.ListN.{get_or, get_or-map}
use lib.Dec.{T, ltb, ltb→lt, lit<}
use lib.Ieee.Fits.{and_l, and_r}
use Rattle.codec.specs.LittleEndian.{AreBytes}
use Rattle.model.specs.declared.Entry.{Entry}
use Rattle.model.specs.Memory.{Memory, Lendable, no_entry}

-- every number is below k
unfoldable pub all_below : ℕ → List ℕ → Bool
all_below k [] = true
all_below k (x ∷ xs) = ltb x k && all_below k xs

pub all_below_lem : (k : ℕ) → 0 < k → (xs : List ℕ) → T (all_below k xs) → (i : ℕ) → get_or xs i 0 < k
unfolding all_below
all_below_lem k h [] t i = h
all_below_lem k h (x ∷ xs) t zero = ltb→lt x k (and_l (ltb x k) (all_below k xs) t)
all_below_lem k h (x ∷ xs) t (suc i) = all_below_lem k h xs (and_r (ltb x k) (all_below k xs) t) i

-- the test of a whole memory
pub record Fitting (m : Memory) : Type 0 where
  pub log : T (all_below 256 m.log)
  pub index : T (all_below (2 ^ 64) m.index)
  pub table : T (all_below 256 m.table)
  pub times : T (all_below (2 ^ 64) (map (λ (e : Entry). e.time) m.catalogue))
  pub rows : T (all_below (2 ^ 32) (map (λ (e : Entry). e.rows) m.catalogue))
  pub marks : T (all_below (2 ^ 32) (map (λ (e : Entry). e.mark) m.catalogue))
  pub areas : T (all_below 256 m.areas)

pub lendable : (m : Memory) → Fitting m → Lendable m
unfolding AreBytes
lendable m f =
    record {
      log_bytes = all_below_lem 256 (lit< tt) m.log f.log;
      words_of_index = all_below_lem (2 ^ 64) (lit< tt) m.index f.index;
      bytes_of_table = all_below_lem 256 (lit< tt) m.table f.table;
      entry_times = λ i. subst (λ (x : ℕ). x < 2 ^ 64) (get_or-map (λ (e : Entry). e.time) m.catalogue i no_entry) (all_below_lem (2 ^ 64) (lit< tt) _ f.times i);
      entry_rows = λ i. subst (λ (x : ℕ). x < 2 ^ 32) (get_or-map (λ (e : Entry). e.rows) m.catalogue i no_entry) (all_below_lem (2 ^ 32) (lit< tt) _ f.rows i);
      entry_marks = λ i. subst (λ (x : ℕ). x < 2 ^ 32) (get_or-map (λ (e : Entry). e.mark) m.catalogue i no_entry) (all_below_lem (2 ^ 32) (lit< tt) _ f.marks i);
      bytes_of_areas = all_below_lem 256 (lit< tt) m.areas f.areas;
    }
