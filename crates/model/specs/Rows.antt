-- Tables as lists of rows (01, "Table"): "Rows are 8 bytes, article then count, ascending by article. A table
-- fills 8 × R bytes, zeros after its rows." Assumes nothing.
use Rattle.std.specs.Prelude.{ℕ, suc, ◌*◌, ◌-◌, ◌≤◌, List, [], ◌∷◌, ◌++◌, Bool, true, false, not, cond, ◌&&◌, ◌||◌, length, ltb, eqb}
use Rattle.codec.specs.LittleEndian.{bytes}
use Rattle.codec.specs.Parts.{zeros}

pub record Row : Type 0 where
  pub article : ℕ
  pub count : ℕ

abbrev pub row : ℕ → ℕ → Row
row a c = record { article = a; count = c }

abbrev pub same_row : Row → Row → Bool
same_row q r = eqb q.article r.article && eqb q.count r.count

-- "Two tables are equal when their row counts and their rows are"
unfoldable pub same_rows : List Row → List Row → Bool
same_rows [] [] = true
same_rows [] (y ∷ ys) = false
same_rows (x ∷ xs) [] = false
same_rows (x ∷ xs) (y ∷ ys) = same_row x y && same_rows xs ys

-- article a is in no row
unfoldable pub lacks : ℕ → List Row → Bool
lacks a [] = true
lacks a (x ∷ xs) = not (eqb x.article a) && lacks a xs

-- row r is among the rows
unfoldable pub has_row : Row → List Row → Bool
has_row r [] = false
has_row r (x ∷ xs) = same_row x r || has_row r xs

-- the count of article a's row, 0 where it has none
unfoldable pub count_of : ℕ → List Row → ℕ
count_of a [] = 0
count_of a (x ∷ xs) = cond (eqb x.article a) x.count (count_of a xs)

-- ascending strictly by article, none below lo
unfoldable pub Ascending : ℕ → List Row → Type 0
Ascending lo [] = Unit
Ascending lo (x ∷ xs) = (lo ≤ x.article) × Ascending (suc x.article) xs

-- ascending rows with row r: it goes before the first row whose article is not smaller
unfoldable pub put_in : Row → List Row → List Row
put_in r [] = r ∷ []
put_in r (x ∷ xs) = cond (ltb x.article r.article) (x ∷ put_in r xs) (r ∷ (x ∷ xs))

-- the rows of the articles other than a
unfoldable pub without : ℕ → List Row → List Row
without a [] = []
without a (x ∷ xs) = cond (eqb x.article a) (without a xs) (x ∷ without a xs)

-- ---- bytes

unfoldable pub row_bytes : Row → List ℕ
row_bytes r = bytes 4 r.article ++ bytes 4 r.count

unfoldable pub rows_bytes : List Row → List ℕ
rows_bytes [] = []
rows_bytes (x ∷ xs) = row_bytes x ++ rows_bytes xs

-- the bytes of a table with row limit R
unfoldable pub table_bytes : ℕ → List Row → List ℕ
table_bytes R rows = rows_bytes rows ++ zeros (8 * R - 8 * length rows)
