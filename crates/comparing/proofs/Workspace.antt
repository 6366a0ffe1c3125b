-- Two tables in one workspace: their rows are read from there. Assumes nothing.
use Prim.Native.Nat.{ℕ, ◌*◌, ◌-◌, ◌^◌, ◌≤◌}
use mathlib.Core.Path.{◌≡◌}
use mathlib.Core.List.{List, ◌++◌, append_assoc}
use lib.ListN.{length, drop}
use lib.Seq.{drop_at}
use Rattle.codec.specs.LittleEndian.{AreBytes}
use Rattle.codec.specs.Parts.{part, zeros}
use Rattle.model.specs.Memory.{State, log_of}
use Rattle.model.specs.Rows.{Row, rows_bytes, table_bytes}
use Rattle.model.specs.Queries.{rows_at}
use Rattle.model.proofs.ReportLaws.{asc_timeslice}
use Rattle.model.proofs.SmallLaws.{below_timeslice}
use Rattle.rows.proofs.TableBytes.{take_all_rows, length-table-bytes}
use Rattle.walk.proofs.StartLaws.{small_records}
use Rattle.netting.specs.Merge.{RowsAre}

module _ (R : ℕ) (A B : List Row) (rest : List ℕ) where
  pub first_rows : part 0 (8 * length A) ((table_bytes R A ++ table_bytes R B) ++ rest) ≡ rows_bytes A
  unfolding table_bytes
  first_rows =
      rw (append_assoc (rows_bytes A ++ zeros (8 * R - 8 * length A)) (table_bytes R B) rest, append_assoc (rows_bytes A) (zeros (8 * R - 8 * length A)) (table_bytes R B ++ rest))
      (take_all_rows A (zeros (8 * R - 8 * length A) ++ (table_bytes R B ++ rest)))

  behind-first : length A ≤ R → drop (8 * R) ((table_bytes R A ++ table_bytes R B) ++ rest) ≡ table_bytes R B ++ rest
  behind-first few = rw append_assoc (drop_at (table_bytes R A) (table_bytes R B ++ rest) (8 * R) (length-table-bytes R A few))

  pub second_rows : length A ≤ R → part (8 * R) (8 * length B) ((table_bytes R A ++ table_bytes R B) ++ rest) ≡ rows_bytes B
  unfolding table_bytes
  second_rows few =
      rw (behind-first few, append_assoc (rows_bytes B) (zeros (8 * R - 8 * length B)) rest)
      (take_all_rows B (zeros (8 * R - 8 * length B) ++ rest))

-- the rows of a table, wherever their bytes are read
pub rows_of_time : (st : State) (t : ℕ) {xs : List ℕ} → AreBytes (drop 24 st.memory.log) → xs ≡ rows_bytes (rows_at st t) → RowsAre (rows_at st t) xs
rows_of_time st t known e =
    record {
      bytes_are = e;
      ascending = asc_timeslice t (log_of st);
      small = below_timeslice (256 ^ 4) t (log_of st) (small_records (drop 24 st.memory.log) st.numbers.records known);
    }
