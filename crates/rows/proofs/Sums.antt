-- The counts that stand in a table's bytes add up to the sum of its rows. Assumes nothing.
use Prim.Native.Nat.{ℕ, zero, suc, ◌+◌, ◌*◌, ◌^◌, ◌<◌}
use mathlib.Core.Path.{◌≡◌, refl, ap, ◌∙◌}
use mathlib.Core.List.{List, [], ◌∷◌, ◌++◌, append_assoc}
use native.Mathlib.Omega.{arith}
use lib.ListN.{length}
use Rattle.codec.specs.LittleEndian.{number}
use Rattle.codec.proofs.Numbers.{number-append_right}
use Rattle.model.specs.Rows.{Row, row_bytes, rows_bytes}
use Rattle.model.specs.Small.{RowsBelow, Small}
use Rattle.model.specs.Units.{sum_of, sum_in}
use Rattle.rows.specs.Table.{count_at}
use Rattle.rows.proofs.TableBytes.{length-row-bytes, row_count}

-- a row in front
sum_in_front : (x : Row) (ys : List ℕ) (m : ℕ) → x.count < 256 ^ 4 → sum_in (row_bytes x ++ ys) (suc m) ≡ x.count + sum_in ys m
unfolding sum_in
sum_in_front x ys zero h = rw (row_count x ys h) (omega arith)
sum_in_front x ys (suc m) h =
    let at : 8 * suc m + 4 ≡ length (row_bytes x) + (8 * m + 4) = omega (arith, length-row-bytes x) in
    let next : number 4 (row_bytes x ++ ys) (8 * suc m + 4) ≡ number 4 ys (8 * m + 4) = rw at (number-append_right 4 (row_bytes x) ys (8 * m + 4)) in
    omega (arith, sum_in_front x ys m h, next)

pub sum_in_rows : (T : List Row) (rest : List ℕ) → Small T → sum_in (rows_bytes T ++ rest) (length T) ≡ sum_of T
unfolding RowsBelow rows_bytes sum_in sum_of
sum_in_rows [] rest s = refl
sum_in_rows (x ∷ xs) rest s =
    let e : rows_bytes (x ∷ xs) ++ rest ≡ row_bytes x ++ (rows_bytes xs ++ rest) = append_assoc (row_bytes x) (rows_bytes xs) rest in
    ap (λ ys. sum_in ys (suc (length xs))) e ∙ (sum_in_front x (rows_bytes xs ++ rest) (length xs) s.0.1 ∙ ap (λ n. x.count + n) (sum_in_rows xs rest s.1))

-- one row more
pub sum_next : (rows : List ℕ) (i : ℕ) → sum_in rows (i + 1) ≡ sum_in rows i + count_at rows i
unfolding sum_in
sum_next rows i = let n : i + 1 ≡ suc i = omega arith in rw n
