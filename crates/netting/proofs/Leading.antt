-- Carrying out a list of insertions and deletions, in any order and with any repetition: each legal entry brings a table at most
-- one row nearer to another, and entries above a row pass it by. Assumes nothing.
use Prim.Native.Nat.{ℕ, suc, ◌+◌, ◌≤◌, ◌<◌, zero-le}
use mathlib.Core.Path.{◌≡◌, sym, ◌∙◌}
use mathlib.Core.List.{List, [], ◌∷◌}
use mathlib.Core.Bool.{Bool, true, false, not, cond, ◌&&◌, false≢true}
use native.Mathlib.Omega.{arith}
use lib.ListN.{length}
use lib.Dec.{eqb}
use borrow.Author.Tests.{lt-ltb}
use Rattle.model.specs.Rows.{Row, same_row, same_rows, lacks, has_row, Ascending, put_in, without}
use Rattle.model.specs.NetChange.{Change, row_in, legal_on, with_change, leads, missing}
use Rattle.model.proofs.Compare.{lt_eqb, and_left, and_right, and_both}
use Rattle.model.proofs.RowLaws.{asc_in, asc_without}
use Rattle.model.proofs.RowSets.{same_rows_true, same-row_true, same-row_self, has_in, has_without}
use Rattle.netting.specs.Form.{From}
use Rattle.netting.proofs.Missing.{missing_one_more, missing_fewer, missing_self, missing-put_in, missing-without}

-- ---- the fewest entries

-- the rows in which two tables differ
abbrev pub apart : List Row → List Row → ℕ
apart T B = length (missing T B) + length (missing B T)

module _ (T : List Row) (c : Change) (h : Ascending 0 T) where
  -- a legal entry leaves rows ascending
  pub changed_asc : legal_on T c ≡ true → Ascending 0 (with_change T c)
  unfolding legal_on with_change
  changed_asc = by (eqb c.kind 2)
    where
      by : (t : Bool) → cond t (lacks c.article T) (eqb c.kind 3 && has_row (row_in c) T) ≡ true → Ascending 0 (cond t (put_in (row_in c) T) (without c.article T))
      by true e = asc_in 0 (row_in c) T h zero-le e
      by false e = asc_without 0 c.article T h

  -- and brings them at most one row nearer
  pub changed_nearer : (B : List Row) → Ascending 0 B → apart T B ≤ suc (apart (with_change T c) B)
  unfolding with_change
  changed_nearer B g = by (eqb c.kind 2)
    where
      fewer : (q : Row) → has_row q (without c.article T) ≡ true → has_row q T ≡ true
      fewer q e = and_right (not (eqb q.article c.article)) (has_row q T) (sym (has_without q c.article T) ∙ e)

      by : (t : Bool) → apart T B ≤ suc (apart (cond t (put_in (row_in c) T) (without c.article T)) B)
      by true = omega (arith, missing-put_in (row_in c) T B, missing_one_more 0 (row_in c) B T (put_in (row_in c) T) g (λ q. has_in q (row_in c) T))
      by false = omega (arith, missing-without 0 c.article T B h, missing_fewer B T (without c.article T) fewer)

-- whatever leads from T to B has an entry for each row in which they differ
pub leads_fewest : (cs : List Change) (T B : List Row) → Ascending 0 T → Ascending 0 B → leads cs T B ≡ true → apart T B ≤ length cs
unfolding leads
leads_fewest [] T B h g e =
    let k : T ≡ B = same_rows_true T B e in
    rw k (omega (arith, missing_self B))
leads_fewest (c ∷ cs) T B h g e =
    let legal : legal_on T c ≡ true = and_left (legal_on T c) (leads cs (with_change T c) B) e in
    let rest : leads cs (with_change T c) B ≡ true = and_right (legal_on T c) (leads cs (with_change T c) B) e in
    omega (arith, changed_nearer T c h B g, leads_fewest cs (with_change T c) B (changed_asc T c h legal) g rest)

-- ---- a row below all entries

module _ (x : Row) (T : List Row) (c : Change) (h : x.article < c.article) where
  legal-above : legal_on (x ∷ T) c ≡ legal_on T c
  unfolding legal_on lacks has_row
  legal-above = rw (lt_eqb h)

  changed-above : with_change (x ∷ T) c ≡ x ∷ with_change T c
  unfolding with_change put_in without
  changed-above = by (eqb c.kind 2)
    where
      by : (t : Bool) → cond t (put_in (row_in c) (x ∷ T)) (without c.article (x ∷ T)) ≡ x ∷ cond t (put_in (row_in c) T) (without c.article T)
      by true = rw (lt-ltb _ _ h)
      by false = rw (lt_eqb h)

-- it makes no difference
pub leads_above : (x : Row) (cs : List Change) (T G : List Row) → From (suc x.article) cs → leads cs (x ∷ T) (x ∷ G) ≡ leads cs T G
unfolding From leads same_rows
leads_above x [] T G f = rw (same-row_self x)
leads_above x (c ∷ cs) T G f =
    let l : x.article < c.article = f.0 in
    rw (legal-above x T c l, changed-above x T c l, leads_above x cs (with_change T c) G f.1)

-- it stands first at the end too
pub leads_keeps : (x : Row) (cs : List Change) (T G : List Row) → From (suc x.article) cs → leads cs (x ∷ T) G ≡ true
    → (H : List Row) × ((G ≡ x ∷ H) × (leads cs T H ≡ true))
unfolding From leads same_rows
leads_keeps x [] T [] f e = absurd (false≢true e)
leads_keeps x [] T (y ∷ ys) f e =
    let k : x ≡ y = same-row_true x y (and_left (same_row x y) (same_rows T ys) e) in
    (ys, (rw k, and_right (same_row x y) (same_rows T ys) e))
leads_keeps x (c ∷ cs) T G f e =
    let l : x.article < c.article = f.0 in
    let g : legal_on T c && leads cs (x ∷ with_change T c) G ≡ true = rw (legal-above x T c l, changed-above x T c l) at e in
    let legal : legal_on T c ≡ true = and_left (legal_on T c) (leads cs (x ∷ with_change T c) G) g in
    let rest = leads_keeps x cs (with_change T c) G f.1 (and_right (legal_on T c) (leads cs (x ∷ with_change T c) G) g) in
    (rest.0, (rest.1.0, and_both legal rest.1.1))
