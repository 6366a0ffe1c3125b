-- The rows of one table that another lacks: their order and their number, and how that number changes where a row is put into
-- or left out of either table. Assumes nothing.
use Prim.Native.Nat.{ℕ, suc, ◌≤◌, ◌<◌}
use mathlib.Core.Path.{◌≡◌, refl, ◌∙◌, sym}
use mathlib.Core.List.{List, [], ◌∷◌}
use mathlib.Core.Bool.{Bool, true, false, cond, ◌||◌, false≢true}
use native.Mathlib.Omega.{arith}
use lib.ListN.{length}
use lib.Dec.{ltb, eqb}
use borrow.Author.Tests.{eqb-true}
use Rattle.model.specs.Rows.{Row, same_row, has_row, Ascending, put_in, without}
use Rattle.model.specs.NetChange.{missing}
use Rattle.model.proofs.Compare.{lt_eqb, and_left, or_right}
use Rattle.model.proofs.RowLaws.{asc_weak, asc_lacks, without-lacks}
use Rattle.model.proofs.RowSets.{has_first}

pub asc_missing : (lo : ℕ) (A B : List Row) → Ascending lo A → Ascending lo (missing A B)
unfolding Ascending missing
asc_missing lo [] B h = tt
asc_missing lo (x ∷ xs) B h = by (asc_missing (suc x.article) xs B h.1) (has_row x B)
  where
    by : Ascending (suc x.article) (missing xs B) → (t : Bool) → Ascending lo (cond t (missing xs B) (x ∷ missing xs B))
    by ih true = asc_weak lo (suc x.article) (missing xs B) (omega (arith, h.0)) ih
    by ih false = (h.0, ih)

pub length-missing_le : (A B : List Row) → length (missing A B) ≤ length A
unfolding missing
length-missing_le [] B = omega arith
length-missing_le (x ∷ xs) B = by (length-missing_le xs B) (has_row x B)
  where
    by : length (missing xs B) ≤ length xs → (t : Bool) → length (cond t (missing xs B) (x ∷ missing xs B)) ≤ suc (length xs)
    by ih true = omega arith
    by ih false = omega arith

-- ---- another table to look in

-- a row r below all of A more to look in makes no difference
pub missing_above : (lo : ℕ) (r : Row) (A T U : List Row) → Ascending lo A → r.article < lo → ((q : Row) → has_row q U ≡ (same_row r q || has_row q T))
    → missing A U ≡ missing A T
unfolding Ascending missing
missing_above lo r [] T U h k e = refl
missing_above lo r (x ∷ xs) T U h k e =
    let l : r.article < x.article = omega (arith, h.0) in
    let f : has_row x U ≡ has_row x T = e x ∙ rw (lt_eqb l) in
    rw (f, missing_above (suc x.article) r xs T U h.1 (omega arith) e)

-- one row more to look in finds at most one row more
pub missing_one_more : (lo : ℕ) (r : Row) (A T U : List Row) → Ascending lo A → ((q : Row) → has_row q U ≡ (same_row r q || has_row q T))
    → length (missing A T) ≤ suc (length (missing A U))
unfolding Ascending missing
missing_one_more lo r [] T U h e = omega arith
missing_one_more lo r (x ∷ xs) T U h e = by (missing_one_more (suc x.article) r xs T U h.1 e) (same_row r x) refl (has_row x T) refl
  where
    by : length (missing xs T) ≤ suc (length (missing xs U)) → (s : Bool) → same_row r x ≡ s → (t : Bool) → has_row x T ≡ t
        → length (missing (x ∷ xs) T) ≤ suc (length (missing (x ∷ xs) U))
    by ih true p true q =
        let l : has_row x U ≡ true = e x ∙ rw p in
        rw (q, l) ih
    by ih true p false q =
        let l : has_row x U ≡ true = e x ∙ rw p in
        let k : r.article ≡ x.article = eqb-true _ _ (and_left (eqb r.article x.article) (eqb r.count x.count) p) in
        rw (q, l, missing_above (suc x.article) r xs T U h.1 (omega arith) e) (omega arith)
    by ih false p true q =
        let l : has_row x U ≡ true = e x ∙ rw (p, q) in
        rw (q, l) ih
    by ih false p false q =
        let l : has_row x U ≡ false = e x ∙ rw (p, q) in
        rw (q, l) (omega arith)

-- fewer rows to look in find no more rows
pub missing_fewer : (A T U : List Row) → ((q : Row) → has_row q U ≡ true → has_row q T ≡ true) → length (missing A T) ≤ length (missing A U)
unfolding missing
missing_fewer [] T U e = omega arith
missing_fewer (x ∷ xs) T U e = by (missing_fewer xs T U e) (has_row x T) refl (has_row x U) refl
  where
    by : length (missing xs T) ≤ length (missing xs U) → (s : Bool) → has_row x T ≡ s → (t : Bool) → has_row x U ≡ t
        → length (missing (x ∷ xs) T) ≤ length (missing (x ∷ xs) U)
    by ih true p true q = rw (p, q) ih
    by ih true p false q = rw (p, q) (omega arith)
    by ih false p true q = absurd (false≢true (sym p ∙ e x q))
    by ih false p false q = rw (p, q) (omega arith)

pub missing_self : (A : List Row) → length (missing A A) ≡ 0
unfolding missing has_row
missing_self A = within A (λ q e. e)
  where
    -- no row of T is missing in a table that has them all
    within : (T : List Row) → ((q : Row) → has_row q T ≡ true → has_row q A ≡ true) → length (missing T A) ≡ 0
    within [] e = refl
    within (x ∷ xs) e = rw (e x (has_first x xs)) (within xs (λ q g. e q (or_right (same_row x q) (has_row q xs) g)))

-- ---- another table whose rows are looked for

pub missing-put_in : (r : Row) (A B : List Row) → length (missing A B) ≤ length (missing (put_in r A) B)
unfolding missing put_in
missing-put_in r [] B = omega arith
missing-put_in r (x ∷ xs) B = by (missing-put_in r xs B) (ltb x.article r.article) refl (has_row x B) refl (has_row r B) refl
  where
    by : length (missing xs B) ≤ length (missing (put_in r xs) B) → (t : Bool) → ltb x.article r.article ≡ t → (s : Bool) → has_row x B ≡ s
        → (u : Bool) → has_row r B ≡ u → length (missing (x ∷ xs) B) ≤ length (missing (put_in r (x ∷ xs)) B)
    by ih true e true p u q = rw (e, p) ih
    by ih true e false p u q = rw (e, p) (omega arith)
    by ih false e s p true q = rw (e, q) (omega arith)
    by ih false e s p false q = rw (e, q) (omega arith)

pub missing-without : (lo a : ℕ) (A B : List Row) → Ascending lo A → length (missing A B) ≤ suc (length (missing (without a A) B))
unfolding Ascending missing without
missing-without lo a [] B h = omega arith
missing-without lo a (x ∷ xs) B h = by (missing-without (suc x.article) a xs B h.1) (eqb x.article a) refl (has_row x B) refl
  where
    by : length (missing xs B) ≤ suc (length (missing (without a xs) B)) → (t : Bool) → eqb x.article a ≡ t → (s : Bool) → has_row x B ≡ s
        → length (missing (x ∷ xs) B) ≤ suc (length (missing (without a (x ∷ xs)) B))
    by ih true e s p =
        let k : x.article ≡ a = eqb-true _ _ e in
        rw (e, without-lacks a xs (asc_lacks (suc x.article) a xs h.1 (omega arith))) (at_most_one (has_row x B))
      where
        at_most_one : (s : Bool) → length (cond s (missing xs B) (x ∷ missing xs B)) ≤ suc (length (missing xs B))
        at_most_one true = omega arith
        at_most_one false = omega arith
    by ih false e true p = rw (e, p) ih
    by ih false e false p = rw (e, p) (omega arith)
