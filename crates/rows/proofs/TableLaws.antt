-- What the definitions of specs/Table come to on the bytes of a table, said of its rows: the place,
-- the row and the count of an article, and a row put in, taken out or counted anew. Assumes
-- nothing.
use Prim.Native.Nat.{ℕ, suc, ◌+◌, ◌*◌, ◌-◌, ◌≤◌, ◌<◌}
use mathlib.Core.Path.{◌≡◌, refl, sym, ap, ◌∙◌}
use mathlib.Core.List.{List, ◌∷◌, ◌++◌, append_assoc}
use mathlib.Core.Bool.{Bool, true, false, not, ◌&&◌, false≢true}
use native.Mathlib.Omega.{arith}
use lib.ListN.{length, take, drop, length-append, length-drop, replicate-append-replicate}
use lib.Seq.{take_at, drop_at, drop-drop, length-take-le, split_at}
use lib.Dec.{ltb, eqb}
use borrow.Author.Tests.{ltb-true, eqb-true, eq-eqb}
use Rattle.codec.specs.LittleEndian.{bytes}
use Rattle.codec.specs.Parts.{zeros, part, same}
use Rattle.codec.proofs.Numbers.{length-bytes}
use Rattle.codec.proofs.Sameness.{same_true, same_false}
use Rattle.model.specs.Rows.{Row, row, lacks, count_of, Ascending, put_in, without, row_bytes, rows_bytes, table_bytes}
use Rattle.model.specs.Small.{Small}
use Rattle.rows.specs.Table.{article_at, count_at, place_of, is_at, row_put, row_taken, count_put, before, recounted, row_at, same_table}
use Rattle.rows.proofs.Places.{before_le, before_lt, before_has, before_article, before_count, put-at, without_at, recounted-at}
use Rattle.rows.proofs.Searches.{place_of_lem}
use Rattle.rows.proofs.TableBytes.{length_rows_bytes, rows_bytes-append, length_front, take-table-bytes, drop-table-bytes, drop_all_rows, drop-zeros, article_table, count_at-table}

-- ---- an article looked up

module _ (R : ℕ) (T : List Row) (a : ℕ) (asc : Ascending 0 T) (small : Small T) where
  pub place_table : place_of (table_bytes R T) (length T) a ≡ before a T
  place_table = place_of_lem (table_bytes R T) T a 0 (article_table R T small) asc

  pub at_before : is_at (table_bytes R T) (length T) (before a T) a ≡ not (lacks a T)
  unfolding is_at
  at_before = by (ltb (before a T) (length T)) refl ∙ before_has 0 a T asc
    where
      by : (t : Bool) → ltb (before a T) (length T) ≡ t
          → (ltb (before a T) (length T) && eqb (article_at (table_bytes R T) (before a T)) a) ≡ (ltb (before a T) (length T) && eqb (row_at T (before a T)).article a)
      by true e = rw (article_table R T small (before a T) (ltb-true _ _ e))
      by false e = rw e

  pub at_table : is_at (table_bytes R T) (length T) (place_of (table_bytes R T) (length T) a) a ≡ not (lacks a T)
  at_table = ap (λ (p : ℕ). is_at (table_bytes R T) (length T) p a) place_table ∙ at_before

  pub count_table : lacks a T ≡ false → count_at (table_bytes R T) (before a T) ≡ count_of a T
  count_table e = count_at-table R T small (before a T) (before_lt 0 a T asc e) ∙ before_count 0 a T asc e

-- ---- changes at any place

module _ (R : ℕ) (T : List Row) (p : ℕ) where
  pub put-at_place : (r : Row) → p ≤ length T → length T < R
      → row_put (table_bytes R T) (length T) p (row_bytes r) ≡ table_bytes R (take p T ++ (r ∷ drop p T))
  unfolding row_put table_bytes rows_bytes
  put-at_place r h few =
      let m = length T in
      let n : length (drop p T) ≡ m - p = length-drop p T in
      let front : take (8 * p) (table_bytes R T) ≡ rows_bytes (take p T) = take-table-bytes R T p h in
      let mid : part (8 * p) (8 * m - 8 * p) (table_bytes R T) ≡ rows_bytes (drop p T) =
      ap (take (8 * m - 8 * p)) (drop-table-bytes R T p h)
      ∙ take_at (rows_bytes (drop p T)) (zeros (8 * R - 8 * m)) (8 * m - 8 * p) (length_rows_bytes (drop p T) ∙ omega arith) in
      let size : length (take p T ++ (r ∷ drop p T)) ≡ suc m = length-append (take p T) (r ∷ drop p T) ∙ rw (length-take-le p T h, n) (omega arith) in
      let past : drop (8 * m) (table_bytes R T) ≡ zeros (8 * R - 8 * m) = drop_all_rows T (zeros (8 * R - 8 * m)) in
      let less : 8 * R - 8 * m - 8 ≡ 8 * R - 8 * suc m = omega arith in
      let tail : drop (8 * m + 8) (table_bytes R T) ≡ zeros (8 * R - 8 * suc m) =
      sym (drop-drop 8 (8 * m) (table_bytes R T)) ∙ ap (drop 8) past ∙ drop-zeros 8 (8 * R - 8 * m) ∙ ap zeros less in
      rw (front, mid, tail, size, rows_bytes-append (take p T) (r ∷ drop p T), append_assoc, append_assoc)

  pub take-at_place : p < length T → length T ≤ R → row_taken (table_bytes R T) (length T) p ≡ table_bytes R (take p T ++ drop (suc p) T)
  unfolding row_taken table_bytes rows_bytes
  take-at_place h few =
      let m = length T in
      let n : length (drop (suc p) T) ≡ m - suc p = length-drop (suc p) T in
      let s : 8 * p + 8 ≡ 8 * suc p = omega arith in
      let front : take (8 * p) (table_bytes R T) ≡ rows_bytes (take p T) = take-table-bytes R T p (omega arith) in
      let mid : part (8 * suc p) (8 * m - 8 * suc p) (table_bytes R T) ≡ rows_bytes (drop (suc p) T) =
      ap (take (8 * m - 8 * suc p)) (drop-table-bytes R T (suc p) h)
      ∙ take_at (rows_bytes (drop (suc p) T)) (zeros (8 * R - 8 * m)) (8 * m - 8 * suc p) (length_rows_bytes (drop (suc p) T) ∙ omega arith) in
      let past : drop (8 * m) (table_bytes R T) ≡ zeros (8 * R - 8 * m) = drop_all_rows T (zeros (8 * R - 8 * m)) in
      let size : length (take p T ++ drop (suc p) T) ≡ m - 1 = length-append (take p T) (drop (suc p) T) ∙ rw (length-take-le p T (omega arith), n) (omega arith) in
      let more : 8 + (8 * R - 8 * m) ≡ 8 * R - 8 * (m - 1) = omega arith in
      rw (s, front, mid, past, replicate-append-replicate {A = ℕ} 8 (8 * R - 8 * m) 0, more, size, rows_bytes-append (take p T) (drop (suc p) T), append_assoc)

  pub recount_at_place : (c : ℕ) → p < length T
      → count_put (table_bytes R T) p c ≡ table_bytes R (take p T ++ (row (row_at T p).article c ∷ drop (suc p) T))
  unfolding table_bytes rows_bytes row_bytes
  recount_at_place c h =
      let q = row_at T p in
      let front = rows_bytes (take p T) ++ bytes 4 q.article in
      let rest = rows_bytes (drop (suc p) T) ++ zeros (8 * R - 8 * length T) in
      let n : length (drop (suc p) T) ≡ length T - suc p = length-drop (suc p) T in
      let lf : length front ≡ 8 * p + 4 = length-append (rows_bytes (take p T)) (bytes 4 q.article) ∙ rw (length_front T p (omega arith), length-bytes 4 q.article) in
      let lc : length (front ++ bytes 4 q.count) ≡ 8 * p + 4 + 4 = length-append front (bytes 4 q.count) ∙ rw (lf, length-bytes 4 q.count) in
      let whole : T ≡ take p T ++ (q ∷ drop (suc p) T) = split_at T p (row 0 0) h in
      let cut : table_bytes R T ≡ front ++ (bytes 4 q.count ++ rest) =
      ap (λ (l : List Row). rows_bytes l ++ zeros (8 * R - 8 * length T)) whole
      ∙ rw (rows_bytes-append (take p T) (q ∷ drop (suc p) T)) (simp append_assoc) in
      let size : length (take p T ++ (row q.article c ∷ drop (suc p) T)) ≡ length T =
      length-append (take p T) (row q.article c ∷ drop (suc p) T) ∙ rw (length-take-le p T (omega arith), n) (omega arith) in
      let back : drop (8 * p + 4 + 4) (front ++ (bytes 4 q.count ++ rest)) ≡ rest =
      ap (drop (8 * p + 4 + 4)) (sym (append_assoc front (bytes 4 q.count) rest)) ∙ drop_at (front ++ bytes 4 q.count) rest (8 * p + 4 + 4) lc in
      ap (λ (xs : List ℕ). count_put xs p c) cut
      ∙ rw (length-bytes 4 c, take_at front (bytes 4 q.count ++ rest) (8 * p + 4) lf, back, size, rows_bytes-append (take p T) (row q.article c ∷ drop (suc p) T))
      (simp append_assoc)

-- ---- and at an article's place

pub put-table : (R : ℕ) (T : List Row) (r : Row) → length T < R → row_put (table_bytes R T) (length T) (before r.article T) (row_bytes r) ≡ table_bytes R (put_in r T)
put-table R T r few = put-at_place R T (before r.article T) r (before_le r.article T) few ∙ ap (table_bytes R) (sym (put-at r T))

pub take-table : (R : ℕ) (T : List Row) (a : ℕ) → Ascending 0 T → lacks a T ≡ false → length T ≤ R
    → row_taken (table_bytes R T) (length T) (before a T) ≡ table_bytes R (without a T)
take-table R T a asc e few = take-at_place R T (before a T) (before_lt 0 a T asc e) few ∙ ap (table_bytes R) (sym (without_at 0 a T asc e))

pub recount_table : (R : ℕ) (T : List Row) (a c : ℕ) → Ascending 0 T → lacks a T ≡ false
    → count_put (table_bytes R T) (before a T) c ≡ table_bytes R (recounted a c T)
recount_table R T a c asc e =
    recount_at_place R T (before a T) c (before_lt 0 a T asc e)
    ∙ ap (λ (b : ℕ). table_bytes R (take (before a T) T ++ (row b c ∷ drop (suc (before a T)) T))) (before_article 0 a T asc e)
    ∙ ap (table_bytes R) (sym (recounted-at 0 a c T asc e))

-- ---- two tables compared

pub same-table_yes : (xs ys : List ℕ) (m n : ℕ) → same_table xs m ys n ≡ true → (m ≡ n) × (xs ≡ ys)
unfolding same_table
same-table_yes xs ys m n = by-test (eqb m n) refl
  where
    by-test : (b : Bool) → eqb m n ≡ b → b && same xs ys ≡ true → (m ≡ n) × (xs ≡ ys)
    by-test true t e = (eqb-true m n t, same_true xs ys e)
    by-test false t e = absurd (false≢true e)

pub same-table_no : (xs ys : List ℕ) (m n : ℕ) → same_table xs m ys n ≡ false → m ≡ n → xs ≡ ys → ⊥
unfolding same_table
same-table_no xs ys m n e h = same_false xs ys (rw (eq-eqb m n h) at e)
