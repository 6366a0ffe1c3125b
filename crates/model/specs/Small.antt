-- Numbers that fit the fields of a row and of a record: articles and counts below a bound, which for rows of
-- 8 bytes is 256 ^ 4. Assumes nothing.
use Rattle.std.specs.Prelude.{ℕ, ◌^◌, ◌<◌, List, [], ◌∷◌}
use Rattle.model.specs.Records.{Rec}
use Rattle.model.specs.Rows.{Row}

-- articles and counts of all rows are below b
unfoldable pub RowsBelow : ℕ → List Row → Type 0
RowsBelow b [] = Unit
RowsBelow b (x ∷ xs) = ((x.article < b) × (x.count < b)) × RowsBelow b xs

-- and of all records
unfoldable pub RecordsBelow : ℕ → List Rec → Type 0
RecordsBelow b [] = Unit
RecordsBelow b (r ∷ rs) = ((r.article < b) × (r.count < b)) × RecordsBelow b rs

-- rows that fit their bytes
abbrev pub Small : List Row → Type 0
Small rows = RowsBelow (256 ^ 4) rows
