-- Two ascending tables read side by side give their net change. Assumes nothing.
use Prim.Native.Nat.{ℕ, zero, suc, ◌+◌, ◌≤◌}
use mathlib.Core.Path.{◌≡◌, refl, sym, ap, ◌∙◌}
use mathlib.Core.List.{List, [], ◌∷◌, ◌++◌, map}
use mathlib.Core.Bool.{Bool, true, false, ◌&&◌, ◌||◌}
use native.Mathlib.Omega.{arith}
use lib.ListN.{length}
use lib.Dec.{eqb}
use borrow.Author.Tests.{eqb-true, eqb-false, ne_eqb, le-ltb}
use Rattle.model.specs.Rows.{Row, same_row, has_row, Ascending}
use Rattle.model.specs.NetChange.{Change, inserts, deletes, missing, arranged, placed, net_change}
use Rattle.model.proofs.Compare.{Compared, less, same, more, compared}
use Rattle.model.proofs.RowLaws.{row_eq, asc_weak, asc_no_row}
use Rattle.model.proofs.RowSets.{has_first}
use Rattle.netting.specs.Form.{From, Merged}
use Rattle.netting.proofs.Missing.{asc_missing, missing_above}
use Rattle.netting.proofs.Arranging.{from_weak, from_deletes, from_inserts, from_append, from_arranged, placed_first, arranged_first}

-- ---- the net change of tables whose first rows are known

-- a row in front of what is looked in
in_cons : (r : Row) (T : List Row) (q : Row) → has_row q (r ∷ T) ≡ (same_row r q || has_row q T)
unfolding has_row
in_cons r T q = refl

pub net_from : (lo : ℕ) (A B : List Row) → Ascending lo A → Ascending lo B → From lo (net_change A B)
unfolding net_change
net_from lo A B h g =
    from_arranged lo (map deletes (missing A B) ++ map inserts (missing B A))
    (from_append lo (map deletes (missing A B)) (map inserts (missing B A)) (from_deletes lo (missing A B) (asc_missing lo A B h))
    (from_inserts lo (missing B A) (asc_missing lo B A g)))

module _ (r : Row) (A B : List Row) (h : Ascending (suc r.article) A) (g : Ascending (suc r.article) B) where
  abbrev ds : List Change
  ds = map deletes (missing A B)

  abbrev cs : List Change
  cs = map inserts (missing B A)

  above : From (suc r.article) (net_change A B)
  above = net_from (suc r.article) A B h g

  net-gone : net_change (r ∷ A) B ≡ deletes r ∷ net_change A B
  unfolding net_change missing arranged
  net-gone =
      rw (asc_no_row (suc r.article) r B g (omega arith), missing_above (suc r.article) r B A (r ∷ A) g (omega arith) (in_cons r A))
      (placed_first (deletes r) (arranged (ds ++ cs)) (from_weak r.article (suc r.article) (arranged (ds ++ cs)) (omega arith) above))

  -- the insertion of r goes in front of the rest
  first-in : arranged (ds ++ (inserts r ∷ cs)) ≡ inserts r ∷ net_change A B
  unfolding net_change
  first-in =
      arranged_first (inserts r) ds cs (from_deletes (suc r.article) (missing A B) (asc_missing (suc r.article) A B h))
      (from_weak r.article (suc r.article) cs (omega arith) (from_inserts (suc r.article) (missing B A) (asc_missing (suc r.article) B A g)))

  net-come : net_change A (r ∷ B) ≡ inserts r ∷ net_change A B
  unfolding net_change missing
  net-come =
      rw (asc_no_row (suc r.article) r A h (omega arith), missing_above (suc r.article) r A B (r ∷ B) h (omega arith) (in_cons r B))
      first-in

  net-kept : net_change (r ∷ A) (r ∷ B) ≡ net_change A B
  unfolding net_change missing
  net-kept =
      rw (
        has_first r B,
        has_first r A,
        missing_above (suc r.article) r A B (r ∷ B) h (omega arith) (in_cons r B),
        missing_above (suc r.article) r B A (r ∷ A) g (omega arith) (in_cons r A),
      )

net_recounted : (r q : Row) (A B : List Row) → Ascending (suc r.article) A → Ascending (suc r.article) B → r.article ≡ q.article → (r.count ≡ q.count → ⊥)
    → net_change (r ∷ A) (q ∷ B) ≡ deletes r ∷ (inserts q ∷ net_change A B)
unfolding net_change missing arranged placed has_row
net_recounted r q A B h g e n =
    let h' : Ascending (suc q.article) A = asc_weak (suc q.article) (suc r.article) A (omega arith) h in
    let g' : Ascending (suc q.article) B = asc_weak (suc q.article) (suc r.article) B (omega arith) g in
    let no-r : has_row r (q ∷ B) ≡ false = rw (ne_eqb q.count r.count (λ k. n (sym k)), asc_no_row (suc r.article) r B g (omega arith)) (no (eqb q.article r.article)) in
    let no-q : has_row q (r ∷ A) ≡ false = rw (ne_eqb r.count q.count n, asc_no_row (suc r.article) q A h (omega arith)) (no (eqb r.article q.article)) in
    rw (
      no-r,
      no-q,
      missing_above (suc q.article) q A B (q ∷ B) h' (omega arith) (in_cons q B),
      missing_above (suc r.article) r B A (r ∷ A) g (omega arith) (in_cons r A),
      first-in q A B h' g',
      le-ltb q.article r.article (omega arith),
    )
  where
    no : (t : Bool) → ((t && false) || false) ≡ false
    no true = refl
    no false = refl

-- ---- read side by side

pub merged_left : {lo : ℕ} {A B : List Row} {cs : List Change} → Merged lo A B cs → Ascending lo A
unfolding Ascending
merged_left Merged.none = tt
merged_left (Merged.gone r l m) = (l, merged_left m)
merged_left {lo} {A} (Merged.come r l m) = asc_weak lo (suc r.article) A (omega arith) (merged_left m)
merged_left (Merged.kept r l m) = (l, merged_left m)
merged_left (Merged.recounted r q l e n m) = (l, merged_left m)

pub merged_right : {lo : ℕ} {A B : List Row} {cs : List Change} → Merged lo A B cs → Ascending lo B
unfolding Ascending
merged_right Merged.none = tt
merged_right {lo} {A} {B} (Merged.gone r l m) = asc_weak lo (suc r.article) B (omega arith) (merged_right m)
merged_right (Merged.come r l m) = (l, merged_right m)
merged_right (Merged.kept r l m) = (l, merged_right m)
merged_right {lo} (Merged.recounted {A = A} {B = B} r q l e n m) = (omega arith, asc_weak (suc q.article) (suc r.article) B (omega arith) (merged_right m))

-- what is read is the net change
pub merged_net : {lo : ℕ} {A B : List Row} {cs : List Change} → Merged lo A B cs → net_change A B ≡ cs
unfolding net_change missing arranged
merged_net Merged.none = refl
merged_net (Merged.gone {A = A} {B = B} r l m) = net-gone r A B (merged_left m) (merged_right m) ∙ ap (λ (cs : List Change). deletes r ∷ cs) (merged_net m)
merged_net (Merged.come {A = A} {B = B} r l m) = net-come r A B (merged_left m) (merged_right m) ∙ ap (λ (cs : List Change). inserts r ∷ cs) (merged_net m)
merged_net (Merged.kept {A = A} {B = B} r l m) = net-kept r A B (merged_left m) (merged_right m) ∙ merged_net m
merged_net (Merged.recounted {A = A} {B = B} r q l e n m) =
    net_recounted r q A B (merged_left m) (merged_right m) e n ∙ ap (λ (cs : List Change). deletes r ∷ (inserts q ∷ cs)) (merged_net m)

-- any two ascending tables can be read so
abbrev Mergeable : ℕ → Type 0
Mergeable n = (lo : ℕ) (A B : List Row) → length A + length B ≤ n → Ascending lo A → Ascending lo B → (cs : List Change) × Merged lo A B cs

merge_none : Mergeable 0
merge_none lo [] [] l h g = ([], Merged.none)
merge_none lo (a ∷ A) B l h g = absurd (omega arith)
merge_none lo [] (b ∷ B) l h g = absurd (omega arith)

merge_more : (n : ℕ) → Mergeable n → Mergeable (suc n)
unfolding Ascending
merge_more n rest lo [] [] l h g = ([], Merged.none)
merge_more n rest lo [] (b ∷ B) l h g = let m = rest (suc b.article) [] B (omega arith) tt g.1 in (inserts b ∷ m.0, Merged.come b g.0 m.1)
merge_more n rest lo (a ∷ A) [] l h g = let m = rest (suc a.article) A [] (omega arith) h.1 tt in (deletes a ∷ m.0, Merged.gone a h.0 m.1)
merge_more n rest lo (a ∷ A) (b ∷ B) l h g = by (compared a.article b.article)
  where
    count : a.article ≡ b.article → ((cs : List Change) × Merged (suc a.article) A B cs) → (t : Bool) → eqb a.count b.count ≡ t
        → (cs : List Change) × Merged lo (a ∷ A) (b ∷ B) cs
    count e m true q =
        let k : a ≡ b = row_eq e (eqb-true _ _ q) in
        rw (← k) (m.0, Merged.kept a h.0 m.1)
    count e m false q = (deletes a ∷ (inserts b ∷ m.0), Merged.recounted a b h.0 e (eqb-false _ _ q) m.1)

    by : Compared a.article b.article → (cs : List Change) × Merged lo (a ∷ A) (b ∷ B) cs
    by (less k) = let m = rest (suc a.article) A (b ∷ B) (omega arith) h.1 (k, g.1) in (deletes a ∷ m.0, Merged.gone a h.0 m.1)
    by (same k) =
        count k (rest (suc a.article) A B (omega arith) h.1 (asc_weak (suc a.article) (suc b.article) B (omega arith) g.1)) (eqb a.count b.count) refl
    by (more k) = let m = rest (suc b.article) (a ∷ A) B (omega arith) (k, h.1) g.1 in (inserts b ∷ m.0, Merged.come b g.0 m.1)

merge : (n : ℕ) → Mergeable n
merge zero = merge_none
merge (suc n) = merge_more n (merge n)

pub merged : (lo : ℕ) (A B : List Row) → Ascending lo A → Ascending lo B → Merged lo A B (net_change A B)
merged lo A B h g =
    let m = merge (length A + length B) lo A B (omega arith) h g in
    rw (merged_net m.1) m.1
