-- The form of a net change (01, "Count files"), apart from any two tables, and the net change of two ascending tables read off
-- side by side. `WellFormed` is what promises cite; `Merged` serves proofs. Assumes nothing.
use Rattle.std.specs.Prelude.{ℕ, suc, ◌≤◌, ◌≡◌, List, [], ◌∷◌}
use Rattle.model.specs.Rows.{Row}
use Rattle.model.specs.NetChange.{Change, inserts, deletes}

-- every article is lo or above it
unfoldable pub From : ℕ → List Change → Type 0
From lo [] = Unit
From lo (c ∷ cs) = (lo ≤ c.article) × From lo cs

-- "ascending by article, a deletion before an insertion of the same article, at most one of each for an article"; none below lo,
-- and never both with one count, since "a row alike in both tables has none"
pub data WellFormed : ℕ → List Change → Type 0 where
  none : {lo : ℕ} → WellFormed lo []
  deletion : {lo : ℕ} {cs : List Change} (r : Row) → lo ≤ r.article → WellFormed (suc r.article) cs → WellFormed lo (deletes r ∷ cs)
  insertion : {lo : ℕ} {cs : List Change} (r : Row) → lo ≤ r.article → WellFormed (suc r.article) cs → WellFormed lo (inserts r ∷ cs)
  recount : {lo : ℕ} {cs : List Change} (r q : Row) → lo ≤ r.article → r.article ≡ q.article → (r.count ≡ q.count → ⊥)
      → WellFormed (suc r.article) cs → WellFormed lo (deletes r ∷ (inserts q ∷ cs))

-- cs is what two ascending tables, none of their articles below lo, show when their rows are read side by side
pub data Merged : ℕ → List Row → List Row → List Change → Type 0 where
  none : {lo : ℕ} → Merged lo [] [] []
  gone : {lo : ℕ} {A B : List Row} {cs : List Change} (r : Row) → lo ≤ r.article → Merged (suc r.article) A B cs → Merged lo (r ∷ A) B (deletes r ∷ cs)
  come : {lo : ℕ} {A B : List Row} {cs : List Change} (r : Row) → lo ≤ r.article → Merged (suc r.article) A B cs → Merged lo A (r ∷ B) (inserts r ∷ cs)
  kept : {lo : ℕ} {A B : List Row} {cs : List Change} (r : Row) → lo ≤ r.article → Merged (suc r.article) A B cs → Merged lo (r ∷ A) (r ∷ B) cs
  recounted : {lo : ℕ} {A B : List Row} {cs : List Change} (r q : Row) → lo ≤ r.article → r.article ≡ q.article → (r.count ≡ q.count → ⊥)
      → Merged (suc r.article) A B cs → Merged lo (r ∷ A) (q ∷ B) (deletes r ∷ (inserts q ∷ cs))
