-- Rows put in and rows left out: order, length, and one undoing the other. Assumes nothing.
use Prim.Native.Nat.{ℕ, suc, ◌≤◌, ◌<◌}
use mathlib.Core.Path.{◌≡◌, refl, sym, ap, ◌∙◌}
use mathlib.Core.List.{List, [], ◌∷◌}
use mathlib.Core.Bool.{Bool, true, false, not, false≢true}
use native.Mathlib.Omega.{arith}
use lib.ListN.{length}
use lib.Dec.{ltb, eqb}
use borrow.Author.Tests.{lt-ltb, le-ltb, eq-eqb, ne_eqb, eqb-true, ltb-false}
use Rattle.model.specs.Rows.{Row, row, lacks, has_row, Ascending, put_in, without}
use Rattle.model.proofs.Compare.{Compared, less, same, more, compared, eqb_self, gt_ltb, lt_eqb, gt_eqb, and_right}

pub row_eq : {r x : Row} → r.article ≡ x.article → r.count ≡ x.count → r ≡ x
row_eq {r} {x} p q = let e : row r.article r.count ≡ row x.article x.count = cc in e

-- ---- order

pub asc_weak : (lo hi : ℕ) (T : List Row) → lo ≤ hi → Ascending hi T → Ascending lo T
unfolding Ascending
asc_weak lo hi [] k h = tt
asc_weak lo hi (x ∷ xs) k h = (omega (arith, h.0), h.1)

-- below ascending rows there is nothing
pub asc_no_row : (lo : ℕ) (r : Row) (T : List Row) → Ascending lo T → r.article < lo → has_row r T ≡ false
unfolding Ascending has_row
asc_no_row lo r [] h k = refl
asc_no_row lo r (x ∷ xs) h k =
    let g : r.article < x.article = omega (arith, h.0) in
    rw (gt_eqb g) (asc_no_row (suc x.article) r xs h.1 (omega arith))

pub asc_lacks : (lo a : ℕ) (T : List Row) → Ascending lo T → a < lo → lacks a T ≡ true
unfolding Ascending lacks
asc_lacks lo a [] h k = refl
asc_lacks lo a (x ∷ xs) h k =
    let g : a < x.article = omega (arith, h.0) in
    rw (gt_eqb g) (asc_lacks (suc x.article) a xs h.1 (omega arith))

pub asc_in : (lo : ℕ) (r : Row) (T : List Row) → Ascending lo T → lo ≤ r.article → lacks r.article T ≡ true → Ascending lo (put_in r T)
unfolding Ascending put_in lacks
asc_in lo r [] h k e = (k, tt)
asc_in lo r (x ∷ xs) h k e =
    by (λ g. asc_in (suc x.article) r xs h.1 g (and_right (not (eqb x.article r.article)) (lacks r.article xs) e)) (compared x.article r.article)
  where
    by : (x.article < r.article → Ascending (suc x.article) (put_in r xs)) → Compared x.article r.article → Ascending lo (put_in r (x ∷ xs))
    by ih (less g) = rw (lt-ltb _ _ g) (h.0, ih g)
    by ih (same g) = absurd (false≢true (rw (eq-eqb _ _ g) at e))
    by ih (more g) = rw (gt_ltb g) (k, (g, h.1))

pub asc_without : (lo a : ℕ) (T : List Row) → Ascending lo T → Ascending lo (without a T)
unfolding Ascending without
asc_without lo a [] h = tt
asc_without lo a (x ∷ xs) h = by (asc_without (suc x.article) a xs h.1) (eqb x.article a) refl
  where
    by : Ascending (suc x.article) (without a xs) → (t : Bool) → eqb x.article a ≡ t → Ascending lo (without a (x ∷ xs))
    by ih true e = rw e (asc_weak lo (suc x.article) (without a xs) (omega (arith, h.0)) ih)
    by ih false e = rw e (h.0, ih)

-- a row goes in front of ascending rows above it
pub in_front : (lo : ℕ) (r : Row) (T : List Row) → Ascending lo T → r.article ≤ lo → put_in r T ≡ r ∷ T
unfolding Ascending put_in
in_front lo r [] h k = refl
in_front lo r (x ∷ xs) h k = rw (le-ltb x.article r.article (omega (arith, h.0)))

-- ---- one after the other

-- leaving out what is not there
pub without-lacks : (a : ℕ) (T : List Row) → lacks a T ≡ true → without a T ≡ T
unfolding without lacks
without-lacks a [] h = refl
without-lacks a (x ∷ xs) h = by (without-lacks a xs (and_right (not (eqb x.article a)) (lacks a xs) h)) (eqb x.article a) refl
  where
    by : without a xs ≡ xs → (t : Bool) → eqb x.article a ≡ t → without a (x ∷ xs) ≡ x ∷ xs
    by ih true e = absurd (false≢true (rw e at h))
    by ih false e = rw (e, ih)

-- a row put in is left out again
pub without_in : (r : Row) (T : List Row) → without r.article (put_in r T) ≡ without r.article T
unfolding put_in without
without_in r [] = rw (eqb_self r.article)
without_in r (x ∷ xs) = by (without_in r xs) (ltb x.article r.article) refl
  where
    by : without r.article (put_in r xs) ≡ without r.article xs → (t : Bool) → ltb x.article r.article ≡ t
        → without r.article (put_in r (x ∷ xs)) ≡ without r.article (x ∷ xs)
    by ih true e = rw (e, ih)
    by ih false e = rw (e, eqb_self r.article)

-- a row left out goes in again where it was
pub in_without : (lo : ℕ) (r : Row) (T : List Row) → Ascending lo T → has_row r T ≡ true → put_in r (without r.article T) ≡ T
unfolding Ascending put_in without has_row
in_without lo r [] h e = absurd (false≢true e)
in_without lo r (x ∷ xs) h e = by (in_without (suc x.article) r xs h.1) (compared x.article r.article)
  where
    none : r.article ≤ x.article → has_row r xs ≡ false
    none k = asc_no_row (suc x.article) r xs h.1 (omega arith)

    count : (t : Bool) → eqb x.count r.count ≡ t → x.article ≡ r.article → r ≡ x
    count true q k = row_eq (sym k) (sym (eqb-true _ _ q))
    count false q k = absurd (false≢true (sym (none (omega arith)) ∙ (rw (q, eq-eqb _ _ k) at e)))

    by : (has_row r xs ≡ true → put_in r (without r.article xs) ≡ xs) → Compared x.article r.article → put_in r (without r.article (x ∷ xs)) ≡ x ∷ xs
    by ih (less k) = rw (lt_eqb k, lt-ltb _ _ k, ih (rw (lt_eqb k) at e))
    by ih (same k) =
        let gone : without r.article xs ≡ xs = without-lacks r.article xs (asc_lacks (suc x.article) r.article xs h.1 (omega arith)) in
        rw (eq-eqb _ _ k, gone, in_front (suc x.article) r xs h.1 (omega arith)) (ap (λ (y : Row). y ∷ xs) (count (eqb x.count r.count) refl k))
    by ih (more k) = absurd (false≢true (sym (none (omega arith)) ∙ (rw (gt_eqb k) at e)))

-- rows of two articles go in in either order
in_in_below : (r q : Row) (T : List Row) → r.article < q.article → put_in r (put_in q T) ≡ put_in q (put_in r T)
unfolding put_in
in_in_below r q [] l = rw (gt_ltb l, lt-ltb _ _ l)
in_in_below r q (x ∷ xs) l = by (in_in_below r q xs l) (compared x.article r.article) (ltb x.article q.article) refl
  where
    over : r.article ≤ x.article → (t : Bool) → ltb x.article q.article ≡ t → put_in r (put_in q (x ∷ xs)) ≡ put_in q (put_in r (x ∷ xs))
    over g true e = rw (e, le-ltb _ _ g, lt-ltb _ _ l, e)
    over g false e = rw (e, le-ltb _ _ g, gt_ltb l, lt-ltb _ _ l, e)

    by : put_in r (put_in q xs) ≡ put_in q (put_in r xs) → Compared x.article r.article → (t : Bool) → ltb x.article q.article ≡ t
        → put_in r (put_in q (x ∷ xs)) ≡ put_in q (put_in r (x ∷ xs))
    by ih (less h) t e =
        let k : x.article < q.article = omega arith in
        rw (lt-ltb _ _ h, lt-ltb _ _ k, lt-ltb _ _ h, ih)
    by ih (same h) t e = over (omega arith) t e
    by ih (more h) t e = over (omega arith) t e

pub in_in : (r q : Row) (T : List Row) → (r.article ≡ q.article → ⊥) → put_in r (put_in q T) ≡ put_in q (put_in r T)
in_in r q T n = by (compared r.article q.article)
  where
    by : Compared r.article q.article → put_in r (put_in q T) ≡ put_in q (put_in r T)
    by (less h) = in_in_below r q T h
    by (same h) = absurd (n h)
    by (more h) = sym (in_in_below q r T h)

-- one article goes in and another is left out in either order
pub without_in_other : (lo a : ℕ) (r : Row) (T : List Row) → Ascending lo T → (r.article ≡ a → ⊥) → without a (put_in r T) ≡ put_in r (without a T)
unfolding Ascending put_in without
without_in_other lo a r [] h n = rw (ne_eqb _ _ n)
without_in_other lo a r (x ∷ xs) h n =
    by (without_in_other (suc x.article) a r xs h.1 n) (ltb x.article r.article) refl (eqb x.article a) refl
  where
    by : without a (put_in r xs) ≡ put_in r (without a xs) → (t : Bool) → ltb x.article r.article ≡ t → (u : Bool) → eqb x.article a ≡ u
        → without a (put_in r (x ∷ xs)) ≡ put_in r (without a (x ∷ xs))
    by ih true e true f = rw (e, f, ih)
    by ih true e false f = rw (e, f, e, ih)
    by ih false e true f =
        let k : r.article ≤ x.article = ltb-false _ _ e in
        rw (e, ne_eqb _ _ n, f, in_front (suc x.article) r (without a xs) (asc_without (suc x.article) a xs h.1) (omega arith))
    by ih false e false f = rw (e, ne_eqb _ _ n, f, e)

-- ---- length

pub length_in : (r : Row) (T : List Row) → length (put_in r T) ≡ suc (length T)
unfolding put_in
length_in r [] = refl
length_in r (x ∷ xs) = by (length_in r xs) (ltb x.article r.article) refl
  where
    by : length (put_in r xs) ≡ suc (length xs) → (t : Bool) → ltb x.article r.article ≡ t → length (put_in r (x ∷ xs)) ≡ suc (suc (length xs))
    by ih true e = rw e (ap suc ih)
    by ih false e = rw e

pub length-without_le : (a : ℕ) (T : List Row) → length (without a T) ≤ length T
unfolding without
length-without_le a [] = omega arith
length-without_le a (x ∷ xs) = by (length-without_le a xs) (eqb x.article a) refl
  where
    by : length (without a xs) ≤ length xs → (t : Bool) → eqb x.article a ≡ t → length (without a (x ∷ xs)) ≤ suc (length xs)
    by ih true e = rw e (omega arith)
    by ih false e = rw e (omega arith)

-- an article that is there has one row
pub length_without : (lo a : ℕ) (T : List Row) → Ascending lo T → lacks a T ≡ false → suc (length (without a T)) ≡ length T
unfolding Ascending without lacks
length_without lo a [] h e = absurd (false≢true (sym e))
length_without lo a (x ∷ xs) h e = by (length_without (suc x.article) a xs h.1) (eqb x.article a) refl
  where
    by : (lacks a xs ≡ false → suc (length (without a xs)) ≡ length xs) → (t : Bool) → eqb x.article a ≡ t → suc (length (without a (x ∷ xs))) ≡ suc (length xs)
    by ih true f =
        let k : x.article ≡ a = eqb-true _ _ f in
        rw (f, without-lacks a xs (asc_lacks (suc x.article) a xs h.1 (omega arith)))
    by ih false f = rw f (ap suc (ih (rw f at e)))
