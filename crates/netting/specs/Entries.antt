-- Entries read from bytes (01, "Count files"): "length 12 (2), kind 2 or 3 (2), article (4), count (4)". `changes_in` reads what
-- `changes_bytes` writes. Assumes nothing.
use Rattle.std.specs.Prelude.{ℕ, zero, suc, ◌^◌, ◌<◌, List, [], ◌∷◌, drop}
use Rattle.codec.specs.LittleEndian.{number}
use Rattle.model.specs.NetChange.{Change}

-- the entry at the front of b
unfoldable pub change_in : List ℕ → Change
change_in b = record { kind = number 2 b 2; article = number 4 b 4; count = number 4 b 8 }

-- the first n entries
unfoldable pub changes_in : ℕ → List ℕ → List Change
changes_in zero b = []
changes_in (suc n) b = change_in b ∷ changes_in n (drop 12 b)

-- an entry whose numbers fit their fields
pub record ChangeFits (c : Change) : Type 0 where
  pub kind_fits : c.kind < 256 ^ 2
  pub article_fits : c.article < 256 ^ 4
  pub count_fits : c.count < 256 ^ 4

unfoldable pub ChangesFit : List Change → Type 0
ChangesFit [] = Unit
ChangesFit (c ∷ cs) = ChangeFits c × ChangesFit cs
