-- The net change of two ascending tables: it leads from the one to the other, no list of legal insertions and deletions that does
-- is shorter, it has no entry exactly where the tables are equal, how many entries it has, and its form. Assumes nothing.
use Prim.Native.Nat.{ℕ, suc, ◌+◌, ◌≤◌}
use mathlib.Core.Path.{◌≡◌, refl, ◌∙◌}
use mathlib.Core.List.{List, [], ◌∷◌, ◌++◌, map}
use mathlib.Core.Bool.{true}
use mathlib.Core.Logic.{◌↔◌}
use native.Mathlib.Omega.{arith}
use lib.ListN.{length, length-append, length-map}
use Rattle.model.specs.Rows.{Row, same_rows, Ascending, without}
use Rattle.model.specs.NetChange.{Change, inserts, deletes, legal_on, with_change, leads, missing, net_change}
use Rattle.model.proofs.Compare.{eqb_self}
use Rattle.model.proofs.RowLaws.{asc_lacks, without-lacks, in_front}
use Rattle.model.proofs.RowSets.{has_first}
use Rattle.netting.specs.Form.{From, WellFormed, Merged}
use Rattle.netting.proofs.Missing.{length-missing_le}
use Rattle.netting.proofs.Arranging.{length-arranged, from_weak}
use Rattle.netting.proofs.Leading.{leads_fewest, leads_above}
use Rattle.netting.proofs.Merging.{merged_left, merged}

-- ---- how many entries

pub length_net : (A B : List Row) → length (net_change A B) ≡ length (missing A B) + length (missing B A)
unfolding net_change
length_net A B =
    length-arranged (map deletes (missing A B) ++ map inserts (missing B A))
    ∙ rw (length-append, length-map (missing A B), length-map (missing B A))

pub length_net_le : (A B : List Row) → length (net_change A B) ≤ length A + length B
length_net_le A B = omega (arith, length_net A B, length-missing_le A B, length-missing_le B A)

-- ---- one entry at an end of a table

-- the first row is deleted
pub delete_first : (r : Row) (A : List Row) → Ascending (suc r.article) A → (legal_on (r ∷ A) (deletes r) ≡ true) × (with_change (r ∷ A) (deletes r) ≡ A)
unfolding legal_on with_change without
delete_first r A h =
    (has_first r A, rw (eqb_self r.article) (without-lacks r.article A (asc_lacks (suc r.article) r.article A h (omega arith))))

-- a row goes in front
pub insert_first : (r : Row) (A : List Row) → Ascending (suc r.article) A → (legal_on A (inserts r) ≡ true) × (with_change A (inserts r) ≡ r ∷ A)
unfolding legal_on with_change
insert_first r A h = (asc_lacks (suc r.article) r.article A h (omega arith), in_front (suc r.article) r A h (omega arith))

-- ---- it leads there

pub merged_from : {lo : ℕ} {A B : List Row} {cs : List Change} → Merged lo A B cs → From lo cs
unfolding From
merged_from Merged.none = tt
merged_from {lo} (Merged.gone {cs = cs} r l m) = (l, from_weak lo (suc r.article) cs (omega arith) (merged_from m))
merged_from {lo} (Merged.come {cs = cs} r l m) = (l, from_weak lo (suc r.article) cs (omega arith) (merged_from m))
merged_from {lo} (Merged.kept {cs = cs} r l m) = from_weak lo (suc r.article) cs (omega arith) (merged_from m)
merged_from {lo} (Merged.recounted {cs = cs} r q l e n m) = (l, (omega arith, from_weak lo (suc r.article) cs (omega arith) (merged_from m)))

pub merged_leads : {lo : ℕ} {A B : List Row} {cs : List Change} → Merged lo A B cs → leads cs A B ≡ true
unfolding leads same_rows
merged_leads Merged.none = refl
merged_leads (Merged.gone {A = A} r l m) =
    let d = delete_first r A (merged_left m) in
    rw (d.0, d.1) (merged_leads m)
merged_leads (Merged.come {A = A} {B = B} {cs = cs} r l m) =
    let i = insert_first r A (merged_left m) in
    rw (i.0, i.1, leads_above r cs A B (merged_from m)) (merged_leads m)
merged_leads (Merged.kept {A = A} {B = B} {cs = cs} r l m) = leads_above r cs A B (merged_from m) ∙ merged_leads m
merged_leads (Merged.recounted {A = A} {B = B} {cs = cs} r q l e n m) =
    let d = delete_first r A (merged_left m) in
    let i = insert_first q A (rw e at (merged_left m)) in
    rw (d.0, d.1, i.0, i.1, leads_above q cs A B (rw e at (merged_from m))) (merged_leads m)

-- ---- the form

pub well_formed_weak : {lo hi : ℕ} {cs : List Change} → lo ≤ hi → WellFormed hi cs → WellFormed lo cs
well_formed_weak h WellFormed.none = WellFormed.none
well_formed_weak {lo} h (WellFormed.deletion r l w) = WellFormed.deletion {lo = lo} r (omega arith) w
well_formed_weak {lo} h (WellFormed.insertion r l w) = WellFormed.insertion {lo = lo} r (omega arith) w
well_formed_weak {lo} h (WellFormed.recount r q l e n w) = WellFormed.recount {lo = lo} r q (omega arith) e n w

pub merged_well_formed : {lo : ℕ} {A B : List Row} {cs : List Change} → Merged lo A B cs → WellFormed lo cs
merged_well_formed Merged.none = WellFormed.none
merged_well_formed (Merged.gone r l m) = WellFormed.deletion r l (merged_well_formed m)
merged_well_formed (Merged.come r l m) = WellFormed.insertion r l (merged_well_formed m)
merged_well_formed (Merged.kept r l m) = well_formed_weak (omega arith) (merged_well_formed m)
merged_well_formed (Merged.recounted r q l e n m) = WellFormed.recount r q l e n (merged_well_formed m)

-- ---- the theorems

module _ (A B : List Row) (h : Ascending 0 A) (g : Ascending 0 B) where
  pub net_leads : leads (net_change A B) A B ≡ true
  net_leads = merged_leads (merged 0 A B h g)

  -- in any order, with any repetition, of any articles
  pub net_fewest : (others : List Change) → leads others A B ≡ true → length (net_change A B) ≤ length others
  net_fewest others e = omega (arith, length_net A B, leads_fewest others A B h g e)

  pub net_empty_iff_equal : (length (net_change A B) ≡ 0) ↔ (same_rows A B ≡ true)
  unfolding leads
  net_empty_iff_equal = (λ e. by (net_change A B) e net_leads, λ e. omega (arith, net_fewest [] e))
    where
      by : (cs : List Change) → length cs ≡ 0 → leads cs A B ≡ true → same_rows A B ≡ true
      by [] e l = l
      by (c ∷ cs) e l = absurd (omega arith)

  pub net_well_formed : WellFormed 0 (net_change A B)
  net_well_formed = merged_well_formed (merged 0 A B h g)
