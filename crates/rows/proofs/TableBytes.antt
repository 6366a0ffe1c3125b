-- A table's bytes: their length, where its rows are cut, what stands at each row, and that the rows
-- can be told from them. Assumes nothing.
use Prim.Native.Nat.{ℕ, zero, suc, ◌+◌, ◌*◌, ◌-◌, ◌^◌, ◌≤◌, ◌<◌}
use mathlib.Core.Path.{◌≡◌, refl, sym, ap, ◌∙◌}
use mathlib.Core.List.{List, [], ◌∷◌, ◌++◌, append_assoc}
use native.Mathlib.Omega.{arith}
use native.Mathlib.Nat.{add-zero}
use lib.ListN.{length, take, drop, length-append, length-replicate, take-append-drop}
use lib.Seq.{take_at, drop_at, length-take-le, drop-cons}
use Rattle.codec.specs.LittleEndian.{number, bytes, AreBytes}
use Rattle.codec.specs.Parts.{zeros}
use Rattle.codec.proofs.Numbers.{length-bytes, number-bytes, number-drop, number-append_right, are_bytes-nil, are_bytes-append, are_bytes-zeros, bytes_are_bytes}
use Rattle.model.specs.Rows.{Row, row, row_bytes, rows_bytes, table_bytes}
use Rattle.model.specs.Small.{RowsBelow, Small}
use Rattle.rows.specs.Table.{article_at, count_at, row_at}
use Rattle.model.proofs.RowLaws.{row_eq}

-- ---- lengths

pub length-row-bytes : (r : Row) → length (row_bytes r) ≡ 8
unfolding row_bytes
length-row-bytes r = length-append (bytes 4 r.article) (bytes 4 r.count) ∙ rw (length-bytes 4 r.article, length-bytes 4 r.count)

pub length_rows_bytes : (T : List Row) → length (rows_bytes T) ≡ 8 * length T
unfolding rows_bytes
length_rows_bytes [] = refl
length_rows_bytes (x ∷ xs) = length-append (row_bytes x) (rows_bytes xs) ∙ rw (length-row-bytes x, length_rows_bytes xs) (omega arith)

pub length-table-bytes : (R : ℕ) (T : List Row) → length T ≤ R → length (table_bytes R T) ≡ 8 * R
unfolding table_bytes
length-table-bytes R T h =
    length-append (rows_bytes T) (zeros (8 * R - 8 * length T))
    ∙ rw (length_rows_bytes T, length-replicate {A = ℕ} (8 * R - 8 * length T) 0) (omega arith)

-- ---- cuts

pub rows_bytes-append : (T U : List Row) → rows_bytes (T ++ U) ≡ rows_bytes T ++ rows_bytes U
unfolding rows_bytes
rows_bytes-append [] U = refl
rows_bytes-append (x ∷ xs) U = rw (rows_bytes-append xs U, append_assoc)

pub length_front : (T : List Row) (p : ℕ) → p ≤ length T → length (rows_bytes (take p T)) ≡ 8 * p
length_front T p h = length_rows_bytes (take p T) ∙ ap (λ (n : ℕ). 8 * n) (length-take-le p T h)

module _ (T : List Row) (rest : List ℕ) (p : ℕ) (within : p ≤ length T) where
  cut : rows_bytes T ++ rest ≡ rows_bytes (take p T) ++ (rows_bytes (drop p T) ++ rest)
  cut = ap (λ (l : List Row). rows_bytes l ++ rest) (sym (take-append-drop p T)) ∙ rw (rows_bytes-append (take p T) (drop p T), append_assoc)

  pub take_rows_bytes : take (8 * p) (rows_bytes T ++ rest) ≡ rows_bytes (take p T)
  take_rows_bytes = rw cut (take_at (rows_bytes (take p T)) (rows_bytes (drop p T) ++ rest) (8 * p) (length_front T p within))

  pub drop_rows_bytes : drop (8 * p) (rows_bytes T ++ rest) ≡ rows_bytes (drop p T) ++ rest
  drop_rows_bytes = rw cut (drop_at (rows_bytes (take p T)) (rows_bytes (drop p T) ++ rest) (8 * p) (length_front T p within))

-- all the rows, and what stands behind them
pub take_all_rows : (T : List Row) (rest : List ℕ) → take (8 * length T) (rows_bytes T ++ rest) ≡ rows_bytes T
take_all_rows T rest = take_at (rows_bytes T) rest (8 * length T) (length_rows_bytes T)

pub drop_all_rows : (T : List Row) (rest : List ℕ) → drop (8 * length T) (rows_bytes T ++ rest) ≡ rest
drop_all_rows T rest = drop_at (rows_bytes T) rest (8 * length T) (length_rows_bytes T)

pub drop-zeros : (k n : ℕ) → drop k (zeros n) ≡ zeros (n - k)
drop-zeros zero n = let e : n ≡ n - 0 = omega arith in ap zeros e
drop-zeros (suc k) zero = let e : 0 ≡ 0 - suc k = omega arith in ap zeros e
drop-zeros (suc k) (suc n) = let e : n - k ≡ suc n - suc k = omega arith in drop-zeros k n ∙ ap zeros e

-- ---- the table's front and its rest

pub take-table-bytes : (R : ℕ) (T : List Row) (p : ℕ) → p ≤ length T → take (8 * p) (table_bytes R T) ≡ rows_bytes (take p T)
unfolding table_bytes
take-table-bytes R T p h = take_rows_bytes T (zeros (8 * R - 8 * length T)) p h

pub drop-table-bytes : (R : ℕ) (T : List Row) (p : ℕ) → p ≤ length T → drop (8 * p) (table_bytes R T) ≡ rows_bytes (drop p T) ++ zeros (8 * R - 8 * length T)
unfolding table_bytes
drop-table-bytes R T p h = drop_rows_bytes T (zeros (8 * R - 8 * length T)) p h

pub table-bytes_rows : (R : ℕ) (T : List Row) → take (8 * length T) (table_bytes R T) ≡ rows_bytes T
unfolding table_bytes
table-bytes_rows R T = take_all_rows T (zeros (8 * R - 8 * length T))

pub table-bytes_empty : (R : ℕ) → table_bytes R [] ≡ zeros (8 * R)
unfolding table_bytes rows_bytes
table-bytes_empty R = let e : 8 * R - 0 ≡ 8 * R = omega arith in ap zeros e

pub are_bytes_rows : (T : List Row) → AreBytes (rows_bytes T)
unfolding rows_bytes row_bytes
are_bytes_rows [] = are_bytes-nil
are_bytes_rows (x ∷ xs) =
    are_bytes-append (row_bytes x) (rows_bytes xs)
    (are_bytes-append (bytes 4 x.article) (bytes 4 x.count) (bytes_are_bytes 4 x.article) (bytes_are_bytes 4 x.count))
    (are_bytes_rows xs)

pub are_bytes-table : (R : ℕ) (T : List Row) → AreBytes (table_bytes R T)
unfolding table_bytes
are_bytes-table R T = are_bytes-append (rows_bytes T) (zeros (8 * R - 8 * length T)) (are_bytes_rows T) (are_bytes-zeros (8 * R - 8 * length T))

-- ---- what is read at a row

pub row_article : (r : Row) (rest : List ℕ) → r.article < 256 ^ 4 → number 4 (row_bytes r ++ rest) 0 ≡ r.article
unfolding row_bytes
row_article r rest h = rw append_assoc (number-bytes 4 r.article (bytes 4 r.count ++ rest) h)

pub row_count : (r : Row) (rest : List ℕ) → r.count < 256 ^ 4 → number 4 (row_bytes r ++ rest) 4 ≡ r.count
unfolding row_bytes
row_count r rest h =
    let at : 4 ≡ length (bytes 4 r.article) + 0 = rw length-bytes in
    rw append_assoc
    (ap (number 4 (bytes 4 r.article ++ (bytes 4 r.count ++ rest))) at
    ∙ number-append_right 4 (bytes 4 r.article) (bytes 4 r.count ++ rest) 0
    ∙ number-bytes 4 r.count rest h)

pub small_at : (b : ℕ) (T : List Row) (i : ℕ) → RowsBelow b T → i < length T → ((row_at T i).article < b) × ((row_at T i).count < b)
unfolding RowsBelow
small_at b [] i s l = absurd (omega arith)
small_at b (x ∷ xs) zero s l = s.0
small_at b (x ∷ xs) (suc i) s l = small_at b xs i s.1 (omega arith)

module _ (R : ℕ) (T : List Row) (small : Small T) (i : ℕ) (within : i < length T) where
  -- the bytes from row i on
  abbrev behind : List ℕ
  behind = rows_bytes (drop (suc i) T) ++ zeros (8 * R - 8 * length T)

  from_row : drop (8 * i) (table_bytes R T) ≡ row_bytes (row_at T i) ++ behind
  unfolding rows_bytes
  from_row = drop-table-bytes R T i (omega arith) ∙ rw (drop-cons T i (row 0 0) within, append_assoc)

  pub article_table : article_at (table_bytes R T) i ≡ (row_at T i).article
  article_table =
      ap (number 4 (table_bytes R T)) (sym (add-zero (8 * i))) ∙ sym (number-drop 4 (8 * i) (table_bytes R T) 0)
      ∙ rw from_row (row_article (row_at T i) behind (small_at (256 ^ 4) T i small within).0)

  pub count_at-table : count_at (table_bytes R T) i ≡ (row_at T i).count
  count_at-table =
      sym (number-drop 4 (8 * i) (table_bytes R T) 4)
      ∙ rw from_row (row_count (row_at T i) behind (small_at (256 ^ 4) T i small within).1)

-- ---- the rows can be told from the bytes

pub row-bytes_injective : (q r : Row) (xs ys : List ℕ) → (q.article < 256 ^ 4) × (q.count < 256 ^ 4) → (r.article < 256 ^ 4) × (r.count < 256 ^ 4)
    → row_bytes q ++ xs ≡ row_bytes r ++ ys → q ≡ r
row-bytes_injective q r xs ys h k e =
    row_eq (sym (row_article q xs h.0) ∙ rw e (row_article r ys k.0)) (sym (row_count q xs h.1) ∙ rw e (row_count r ys k.1))

pub rows_bytes_injective : (T U : List Row) → Small T → Small U → length T ≡ length U → rows_bytes T ≡ rows_bytes U → T ≡ U
unfolding RowsBelow rows_bytes
rows_bytes_injective [] [] s t l e = refl
rows_bytes_injective [] (y ∷ ys) s t l e = absurd (omega arith)
rows_bytes_injective (x ∷ xs) [] s t l e = absurd (omega arith)
rows_bytes_injective (x ∷ xs) (y ∷ ys) s t l e =
    let h : x ≡ y = row-bytes_injective x y (rows_bytes xs) (rows_bytes ys) s.0 t.0 e in
    let k : rows_bytes xs ≡ rows_bytes ys =
    sym (drop_at (row_bytes x) (rows_bytes xs) 8 (length-row-bytes x)) ∙ ap (drop 8) e ∙ drop_at (row_bytes y) (rows_bytes ys) 8 (length-row-bytes y) in
    let ih : xs ≡ ys = rows_bytes_injective xs ys s.1 t.1 (omega arith) k in
    cc

pub table-bytes_injective : (R : ℕ) (T U : List Row) → Small T → Small U → length T ≡ length U → table_bytes R T ≡ table_bytes R U → T ≡ U
table-bytes_injective R T U s t l e =
    rows_bytes_injective T U s t l (sym (table-bytes_rows R T) ∙ ap (take (8 * length T)) e ∙ ap (λ (n : ℕ). take (8 * n) (table_bytes R U)) l ∙ table-bytes_rows R U)
