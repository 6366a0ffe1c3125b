-- Which rows and articles a list of rows has; ascending rows are fixed by that. Assumes nothing.
use Prim.Native.Nat.{ℕ, suc, ◌≤◌}
use mathlib.Core.Path.{◌≡◌, refl, sym, ap, subst, ◌∙◌}
use mathlib.Core.List.{List, [], ◌∷◌}
use mathlib.Core.Bool.{Bool, true, false, not, ◌&&◌, ◌||◌, false≢true}
use native.Mathlib.Omega.{arith}
use lib.Dec.{ltb, eqb}
use borrow.Author.Tests.{eq-eqb, ne_eqb, eqb-true, eqb-false}
use Rattle.model.specs.Rows.{Row, row, same_row, same_rows, lacks, has_row, count_of, Ascending, put_in, without}
use Rattle.model.proofs.Compare.{Compared, less, same, more, compared, eqb_self, lt_eqb, and_left, and_right, or_swap}
use Rattle.model.proofs.RowLaws.{row_eq, asc_no_row}

-- ---- equal rows

pub same-row_true : (x y : Row) → same_row x y ≡ true → x ≡ y
same-row_true x y e =
    row_eq (eqb-true _ _ (and_left (eqb x.article y.article) (eqb x.count y.count) e))
    (eqb-true _ _ (and_right (eqb x.article y.article) (eqb x.count y.count) e))

pub same-row_self : (x : Row) → same_row x x ≡ true
same-row_self x = rw (eqb_self x.article, eqb_self x.count)

pub same_rows_true : (A B : List Row) → same_rows A B ≡ true → A ≡ B
unfolding same_rows
same_rows_true [] [] e = refl
same_rows_true [] (y ∷ ys) e = absurd (false≢true e)
same_rows_true (x ∷ xs) [] e = absurd (false≢true e)
same_rows_true (x ∷ xs) (y ∷ ys) e =
    let head : x ≡ y = same-row_true x y (and_left (same_row x y) (same_rows xs ys) e) in
    let tail : xs ≡ ys = same_rows_true xs ys (and_right (same_row x y) (same_rows xs ys) e) in
    cc

pub same_rows_refl : (A : List Row) → same_rows A A ≡ true
unfolding same_rows
same_rows_refl [] = refl
same_rows_refl (x ∷ xs) = rw (eqb_self x.article, eqb_self x.count) (same_rows_refl xs)

-- ---- articles

pub lacks-without : (a : ℕ) (T : List Row) → lacks a (without a T) ≡ true
unfolding lacks without
lacks-without a [] = refl
lacks-without a (x ∷ xs) = by (lacks-without a xs) (eqb x.article a) refl
  where
    by : lacks a (without a xs) ≡ true → (t : Bool) → eqb x.article a ≡ t → lacks a (without a (x ∷ xs)) ≡ true
    by ih true e = rw e ih
    by ih false e = rw (e, e) ih

pub lacks_in : (a : ℕ) (r : Row) (T : List Row) → lacks a (put_in r T) ≡ (not (eqb r.article a) && lacks a T)
unfolding put_in lacks
lacks_in a r [] = refl
lacks_in a r (x ∷ xs) = by (lacks_in a r xs) (ltb x.article r.article) refl
  where
    swap : (p q c : Bool) → (p && (q && c)) ≡ (q && (p && c))
    swap true true c = refl
    swap true false c = refl
    swap false true c = refl
    swap false false c = refl

    by : lacks a (put_in r xs) ≡ (not (eqb r.article a) && lacks a xs) → (t : Bool) → ltb x.article r.article ≡ t
        → lacks a (put_in r (x ∷ xs)) ≡ (not (eqb r.article a) && (not (eqb x.article a) && lacks a xs))
    by ih true e = rw (e, ih) (swap (not (eqb x.article a)) (not (eqb r.article a)) (lacks a xs))
    by ih false e = rw e

-- ---- rows

pub has_in : (q x : Row) (T : List Row) → has_row q (put_in x T) ≡ (same_row x q || has_row q T)
unfolding put_in has_row
has_in q x [] = refl
has_in q x (y ∷ ys) = by (has_in q x ys) (ltb y.article x.article) refl
  where
    by : has_row q (put_in x ys) ≡ (same_row x q || has_row q ys) → (t : Bool) → ltb y.article x.article ≡ t
        → has_row q (put_in x (y ∷ ys)) ≡ (same_row x q || (same_row y q || has_row q ys))
    by ih true e = rw (e, ih) (or_swap (same_row y q) (same_row x q) (has_row q ys))
    by ih false e = rw e

pub has_without : (q : Row) (a : ℕ) (T : List Row) → has_row q (without a T) ≡ (not (eqb q.article a) && has_row q T)
unfolding without has_row
has_without q a [] = by (eqb q.article a)
  where
    by : (t : Bool) → false ≡ (not t && false)
    by true = refl
    by false = refl
has_without q a (x ∷ xs) = by (has_without q a xs) (eqb x.article a) refl (eqb q.article a) refl
  where
    by : has_row q (without a xs) ≡ (not (eqb q.article a) && has_row q xs) → (t : Bool) → eqb x.article a ≡ t → (u : Bool) → eqb q.article a ≡ u
        → has_row q (without a (x ∷ xs)) ≡ (not (eqb q.article a) && (same_row x q || has_row q xs))
    by ih true e true f = rw (e, f) (rw f at ih)
    by ih true e false f =
        let k : x.article ≡ a = eqb-true _ _ e in
        rw (e, f, ne_eqb x.article q.article (λ g. eqb-false _ _ f (sym g ∙ k))) (rw f at ih)
    by ih false e true f =
        let k : q.article ≡ a = eqb-true _ _ f in
        rw (e, f, ne_eqb x.article q.article (λ g. eqb-false _ _ e (g ∙ k))) (rw f at ih)
    by ih false e false f = rw (e, f) (ap (λ (b : Bool). same_row x q || b) (rw f at ih))

-- an article of no row has no row
pub lacks_no_row : (r : Row) (T : List Row) → lacks r.article T ≡ true → has_row r T ≡ false
unfolding lacks has_row
lacks_no_row r [] e = refl
lacks_no_row r (x ∷ xs) e = by (lacks_no_row r xs) (eqb x.article r.article) refl
  where
    by : (lacks r.article xs ≡ true → has_row r xs ≡ false) → (t : Bool) → eqb x.article r.article ≡ t → has_row r (x ∷ xs) ≡ false
    by ih true f = absurd (false≢true (rw f at e))
    by ih false f = rw f (ih (rw f at e))

pub has_not_lacks : (r : Row) (T : List Row) → has_row r T ≡ true → lacks r.article T ≡ false
has_not_lacks r T e = by (lacks r.article T) refl
  where
    by : (t : Bool) → lacks r.article T ≡ t → lacks r.article T ≡ false
    by true f = absurd (false≢true (sym (lacks_no_row r T f) ∙ e))
    by false f = f

-- ---- counts

-- an article that is there has a row with its count
pub present : (a : ℕ) (T : List Row) → lacks a T ≡ false → has_row (row a (count_of a T)) T ≡ true
unfolding lacks has_row count_of
present a [] e = absurd (false≢true (sym e))
present a (x ∷ xs) e = by (present a xs) (eqb x.article a) refl
  where
    by : (lacks a xs ≡ false → has_row (row a (count_of a xs)) xs ≡ true) → (t : Bool) → eqb x.article a ≡ t → has_row (row a (count_of a (x ∷ xs))) (x ∷ xs) ≡ true
    by ih true f = rw (f, eqb_self x.count)
    by ih false f =
        let s : count_of a (x ∷ xs) ≡ count_of a xs = rw f in
        let P : ℕ → Type 0 = λ k. has_row (row a k) (x ∷ xs) ≡ true in
        subst P (sym s) (rw f (ih (rw f at e)))

-- and of ascending rows no other
pub count_has : (lo : ℕ) (r : Row) (T : List Row) → Ascending lo T → has_row r T ≡ true → count_of r.article T ≡ r.count
unfolding Ascending has_row count_of
count_has lo r [] h e = absurd (false≢true e)
count_has lo r (x ∷ xs) h e = by (count_has (suc x.article) r xs h.1) (eqb x.article r.article) refl (eqb x.count r.count) refl
  where
    by : (has_row r xs ≡ true → count_of r.article xs ≡ r.count) → (t : Bool) → eqb x.article r.article ≡ t → (u : Bool) → eqb x.count r.count ≡ u
        → count_of r.article (x ∷ xs) ≡ r.count
    by ih true f true g = rw f (eqb-true _ _ g)
    by ih true f false g =
        let k : x.article ≡ r.article = eqb-true _ _ f in
        absurd (false≢true (sym (asc_no_row (suc x.article) r xs h.1 (omega arith)) ∙ (rw (f, g) at e)))
    by ih false f u g = rw f (ih (rw f at e))

-- ---- ascending rows are fixed by the rows they have

pub has_first : (x : Row) (xs : List Row) → has_row x (x ∷ xs) ≡ true
unfolding has_row
has_first x xs = rw (eqb_self x.article, eqb_self x.count)

pub asc_same : (lo hi : ℕ) (T U : List Row) → Ascending lo T → Ascending hi U → ((q : Row) → has_row q T ≡ has_row q U) → T ≡ U
unfolding Ascending has_row
asc_same lo hi [] [] h g e = refl
asc_same lo hi [] (y ∷ ys) h g e = absurd (false≢true (e y ∙ has_first y ys))
asc_same lo hi (x ∷ xs) [] h g e = absurd (false≢true (sym (e x) ∙ has_first x xs))
asc_same lo hi (x ∷ xs) (y ∷ ys) h g e =
    by (asc_same (suc x.article) (suc y.article) xs ys h.1 g.1) (compared x.article y.article)
  where
    no-x : (q : Row) → q.article ≤ x.article → has_row q xs ≡ false
    no-x q k = asc_no_row (suc x.article) q xs h.1 (omega arith)

    no-y : (q : Row) → q.article ≤ y.article → has_row q ys ≡ false
    no-y q k = asc_no_row (suc y.article) q ys g.1 (omega arith)

    count : x.article ≡ y.article → (t : Bool) → eqb y.count x.count ≡ t → x ≡ y
    count k true q = row_eq k (sym (eqb-true _ _ q))
    count k false q = absurd (false≢true (sym (no-y x (omega arith)) ∙ (rw (eq-eqb _ _ (sym k), q) at (sym (e x) ∙ has_first x xs))))

    rest : x.article ≡ y.article → (q : Row) → Compared x.article q.article → has_row q xs ≡ has_row q ys
    rest k q (less m) = rw (lt_eqb m, lt_eqb (rw k at m)) at (e q)
    rest k q (same m) = no-x q (omega arith) ∙ sym (no-y q (omega arith))
    rest k q (more m) = no-x q (omega arith) ∙ sym (no-y q (omega arith))

    by : (((q : Row) → has_row q xs ≡ has_row q ys) → xs ≡ ys) → Compared x.article y.article → x ∷ xs ≡ y ∷ ys
    by ih (less k) = absurd (false≢true (sym (e x ∙ asc_no_row y.article x (y ∷ ys) (omega arith, g.1) k) ∙ has_first x xs))
    by ih (same k) =
        let w : x ≡ y = count k (eqb y.count x.count) refl in
        let z : xs ≡ ys = ih (λ q. rest k q (compared x.article q.article)) in
        rw (w, z)
    by ih (more k) = absurd (false≢true (sym (sym (e y) ∙ asc_no_row x.article y (x ∷ xs) (omega arith, h.1) k) ∙ has_first y ys))
