-- Net changes (01, "Count files"): lists of insertions and deletions, their bytes, what carrying one out does, and
-- the net change from one table to another. Nothing here knows the store or the row limit. Assumes nothing.
use Rattle.std.specs.Prelude.{ℕ, ◌*◌, ◌-◌, List, [], ◌∷◌, ◌++◌, map, Bool, cond, ◌&&◌, length, ltb, eqb}
use Rattle.codec.specs.LittleEndian.{bytes}
use Rattle.codec.specs.Parts.{zeros}
use Rattle.model.specs.Rows.{Row, row, same_rows, lacks, has_row, put_in, without}

-- an entry: kind 2 inserts its row, kind 3 deletes it
pub record Change : Type 0 where
  pub kind : ℕ
  pub article : ℕ
  pub count : ℕ

abbrev pub inserts : Row → Change
inserts r = record { kind = 2; article = r.article; count = r.count }

abbrev pub deletes : Row → Change
deletes r = record { kind = 3; article = r.article; count = r.count }

abbrev pub row_in : Change → Row
row_in c = row c.article c.count

-- ---- carrying out a list

-- "An insertion is legal where its article is absent …; a deletion is legal where its article is present with
-- that count"
unfoldable pub legal_on : List Row → Change → Bool
legal_on rows c = cond (eqb c.kind 2) (lacks c.article rows) (eqb c.kind 3 && has_row (row_in c) rows)

-- an insertion "adds the row", a deletion "removes the row"
unfoldable pub with_change : List Row → Change → List Row
with_change rows c = cond (eqb c.kind 2) (put_in (row_in c) rows) (without c.article rows)

-- "A list leads from one table to another when each entry is legal and the rows at the end are the other's"
unfoldable pub leads : List Change → List Row → List Row → Bool
leads [] rows goal = same_rows rows goal
leads (c ∷ cs) rows goal = legal_on rows c && leads cs (with_change rows c) goal

-- ---- the net change from a to b

-- the rows of a that b lacks
unfoldable pub missing : List Row → List Row → List Row
missing [] b = []
missing (r ∷ a) b = cond (has_row r b) (missing a b) (r ∷ missing a b)

-- "ascending by article": an entry goes before the first whose article is not smaller
unfoldable pub placed : Change → List Change → List Change
placed c [] = c ∷ []
placed c (x ∷ xs) = cond (ltb x.article c.article) (x ∷ placed c xs) (c ∷ (x ∷ xs))

unfoldable pub arranged : List Change → List Change
arranged [] = []
arranged (c ∷ cs) = placed c (arranged cs)

-- "It deletes each row of a that b lacks and inserts each row of b that a lacks", the entries of one article with
-- the deletion first, since the deletions are placed last
unfoldable pub net_change : List Row → List Row → List Change
net_change a b = arranged (map deletes (missing a b) ++ map inserts (missing b a))

-- ---- bytes

-- "length 12 (2), kind 2 or 3 (2), article (4), count (4)"
unfoldable pub change_bytes : Change → List ℕ
change_bytes c = bytes 2 12 ++ (bytes 2 c.kind ++ (bytes 4 c.article ++ bytes 4 c.count))

unfoldable pub changes_bytes : List Change → List ℕ
changes_bytes [] = []
changes_bytes (c ∷ cs) = change_bytes c ++ changes_bytes cs

-- a net change in an output: "The rest of 24 × R bytes is zero"
unfoldable pub net_change_bytes : ℕ → List Change → List ℕ
net_change_bytes R cs = changes_bytes cs ++ zeros (24 * R - 12 * length cs)
