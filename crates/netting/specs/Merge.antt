-- What a merge of the rows of two tables leaves, on its way and at its end (01, "Count files"). Of bytes that are no ascending
-- rows nothing is said but where the merge stays. Assumes nothing.
use Rattle.std.specs.Prelude.{ℕ, ◌+◌, ◌*◌, ◌-◌, ◌^◌, ◌≤◌, ◌<◌, ◌≡◌, List, ◌++◌, length, take, drop}
use Rattle.codec.specs.Parts.{zeros}
use Rattle.model.specs.Rows.{Row, Ascending, rows_bytes}
use Rattle.model.specs.Small.{Small}
use Rattle.model.specs.NetChange.{Change, changes_bytes, net_change}
use Rattle.rows.specs.Table.{article_at, count_at}

-- an entry of this kind for row i of the bytes xs
abbrev pub change_at : ℕ → List ℕ → ℕ → Change
change_at kind xs i = record { kind = kind; article = article_at xs i; count = count_at xs i }

-- xs is the rows T of a table and nothing else
pub record RowsAre (T : List Row) (xs : List ℕ) : Type 0 where
  pub bytes_are : xs ≡ rows_bytes T
  pub ascending : Ascending 0 T
  pub small : Small T

-- ---- on the way

-- a merge that has passed i of m rows of the bytes a and j of n rows of the bytes b, not yet all of them, and written k entries:
-- at most one for each row passed, so that there is room for the rest
pub record Underway (a i m b j n out k : ℕ) : Type 0 where
  pub left_long : 8 * m ≤ a
  pub right_long : 8 * n ≤ b
  pub out_long : 12 * (m + n) ≤ out
  pub left_within : i ≤ m
  pub right_within : j ≤ n
  pub more : i + j < m + n
  pub few : k ≤ i + j

-- x is the article of row i of m, or above every article where there are no more rows
pub data Head (xs : List ℕ) (i m x : ℕ) : Type 0 where
  ended : i ≡ m → x ≡ 2 ^ 32 → Head xs i m x
  stands : i < m → x < 2 ^ 32 → x ≡ article_at xs i → Head xs i m x

-- out begins with k entries, and the net change of the rows not yet passed is what they lack to the whole
pub record Passed (A B : List Row) (i j k : ℕ) (out : List ℕ) : Type 0 where
  pub entries : List Change
  pub count_is : length entries ≡ k
  pub written : take (12 * k) out ≡ changes_bytes entries
  pub left : entries ++ net_change (drop i A) (drop j B) ≡ net_change A B

-- some rows more are passed
pub record Passes (a b : List ℕ) (m n i j k : ℕ) (out : List ℕ) (i' j' k' : ℕ) (out' : List ℕ) : Type 0 where
  pub on : (A B : List Row) → RowsAre A a → RowsAre B b → length A ≡ m → length B ≡ n → Passed A B i j k out → Passed A B i' j' k' out'

-- ---- at the end

-- the net change from the rows a to the rows b in out, zeros behind its entries, of which there are k
pub record Merges (a b : List ℕ) (k : ℕ) (out : List ℕ) : Type 0 where
  pub on : (A B : List Row) → RowsAre A a → RowsAre B b
      → (k ≡ length (net_change A B)) × (out ≡ changes_bytes (net_change A B) ++ zeros (length out - 12 * length (net_change A B)))
