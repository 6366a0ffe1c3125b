-- Page and count of a position (02, wish 5): of a legal log the records counted are those at or before the time, the last of
-- them is on the page, and no other two numbers are so; none is counted before the first alone, and of an update split
-- over two pages both. Assumes nothing.
use Prim.Native.Nat.{ℕ, zero, suc, ◌-◌, ◌*◌, ◌≤◌, ◌<◌}
use mathlib.Core.Path.{◌≡◌, refl, ap, ◌∙◌}
use mathlib.Core.List.{List}
use mathlib.Core.Bool.{Bool, true, false}
use native.Mathlib.Omega.{arith}
use native.Mathlib.Nat.{suc-mul, mul-le-mul_right}
use lib.ListN.{length}
use lib.Dec.{ltb}
use borrow.Author.Tests.{ltb-true, ltb-false}
use Rattle.model.specs.declared.Position.{Position}
use Rattle.model.specs.Records.{Rec}
use Rattle.model.specs.Legal.{legal}
use Rattle.model.specs.Pages.{page_times, records_up_to}
use Rattle.model.specs.Tree.{keys_up_to, page_position}
use Rattle.model.specs.Positions.{position_in, time_of, OnPage, PageAndCount, PageTiedToCount, PageAndCountAreOne, NoneBeforeFirst, SplitUpdateCountsBoth}
use Rattle.model.proofs.UpToLaws.{length_up_to}
use Rattle.model.proofs.TimeLaws.{times-two-apart, records_up_to_before, records_up_to_from, records_up_to_lt, records_up_to_cut}
use Rattle.model.proofs.PageLaws.{page_range_some, page_range_none, page_range_to}

-- a position is its two numbers
abbrev position : ℕ → ℕ → Position
position page requests = record { page = record { 0 = page }; requests = requests }

pub same-position : (p q : Position) → p.page.0 ≡ q.page.0 → p.requests ≡ q.requests → p ≡ q
same-position p q e f = ap (λ (x : ℕ). position x p.requests) e ∙ ap (position q.page.0) f

-- ---- of a legal log

module _ (N R : ℕ) (rs : List Rec) (t : ℕ) (two : 2 ≤ N) (ok : legal R rs ≡ true) where
  abbrev keys : ℕ
  keys = keys_up_to (page_times N rs) t

  some : 0 < keys → page_position (page_times N rs) t * N < records_up_to t rs
  some h = page_range_some N R rs two ok t h

  none : keys ≤ 0 → records_up_to t rs ≡ 0
  none h = page_range_none N R rs two ok t (omega arith)

  last-on-page : (k : ℕ) → records_up_to t rs ≡ suc k → OnPage N (page_position (page_times N rs) t) k
  last-on-page k e = by (ltb 0 keys) refl
    where
      by : (q : Bool) → ltb 0 keys ≡ q → OnPage N (page_position (page_times N rs) t) k
      by true h = (omega (arith, some (ltb-true 0 keys h)), omega (arith, page_range_to N R rs two ok t))
      by false h = absurd (omega (arith, none (ltb-false 0 keys h)))

  none-page-zero : records_up_to t rs ≡ 0 → page_position (page_times N rs) t ≡ 0
  none-page-zero e = by (ltb 0 keys) refl
    where
      by : (q : Bool) → ltb 0 keys ≡ q → page_position (page_times N rs) t ≡ 0
      by true h = absurd (omega (arith, some (ltb-true 0 keys h)))
      by false h = let z : keys ≤ 0 = ltb-false 0 keys h in omega arith

pub page_tied_to_count : PageTiedToCount
page_tied_to_count N R rs t two ok = record {
  within = omega (arith, length_up_to t rs);
  counted = λ i l. (λ h. records_up_to_before R rs ok t i (omega arith), λ h. omega (arith, records_up_to_lt R rs ok t i l h));
  on_page = last-on-page N R rs t two ok;
  page_zero = none-page-zero N R rs t two ok;
}

-- ---- of any numbers

-- two counts of the same records
count_le : (N : ℕ) (rs : List Rec) (t : ℕ) (p q : Position) → PageAndCount N rs t p → PageAndCount N rs t q → p.requests ≤ q.requests
count_le N rs t p q f g = by (ltb q.requests p.requests) refl
  where
    by : (b : Bool) → ltb q.requests p.requests ≡ b → p.requests ≤ q.requests
    by true e =
        let h : q.requests < p.requests = ltb-true q.requests p.requests e in
        let l : q.requests < length rs = omega (arith, f.within) in
        absurd (omega (arith, (g.counted q.requests l).1 ((f.counted q.requests l).0 h)))
    by false e = ltb-false q.requests p.requests e

-- a record is on one page
page_le : (N x y k : ℕ) → OnPage N x k → OnPage N y k → x ≤ y
page_le N x y k f g = by (ltb y x) refl
  where
    by : (b : Bool) → ltb y x ≡ b → x ≤ y
    by true e = let h : suc y * N ≤ x * N = mul-le-mul_right N (ltb-true y x e) in absurd (omega (arith, suc-mul y N, f.0, g.1))
    by false e = ltb-false y x e

pub page_and_count_are_one : PageAndCountAreOne
page_and_count_are_one N rs t p q f g =
    let same : p.requests ≡ q.requests = omega (arith, count_le N rs t p q f g, count_le N rs t q p g f) in
    by p.requests refl same
  where
    by : (n : ℕ) → p.requests ≡ n → p.requests ≡ q.requests → p ≡ q
    by zero e same =
        same-position p q (omega (arith, f.page_zero e, g.page_zero (omega arith))) same
    by (suc k) e same =
        let on : OnPage N p.page.0 k = f.on_page k e in
        let on' : OnPage N q.page.0 k = g.on_page k (omega arith) in
        same-position p q (omega (arith, page_le N p.page.0 q.page.0 k on on', page_le N q.page.0 p.page.0 k on' on)) same

-- ---- before the first, and over two pages

pub none-before_first : NoneBeforeFirst
none-before_first N R rs t ok = (before, after)
  where
    before : records_up_to t rs ≡ 0 → (i : ℕ) → i < length rs → t < time_of rs i
    before e i l = records_up_to_from R rs ok t i (omega arith) l

    after : ((i : ℕ) → i < length rs → t < time_of rs i) → records_up_to t rs ≡ 0
    after all = records_up_to_cut R rs ok t 0 (omega arith) (λ i e. absurd (omega arith)) (λ l. all 0 l)

pub split_update_counts-both : SplitUpdateCountsBoth
split_update_counts-both N R rs p two ok l one_time =
    let k = suc p * N in
    let t = time_of rs k in
    let page = page_position (page_times N rs) t in
    let both : records_up_to t rs ≡ suc (suc p * N) = records_up_to_cut R rs ok t (suc k) (omega arith) (λ i e. last i (omega arith)) next in
    let on : OnPage N page k = last-on-page N R rs t two ok k both in
    let here : OnPage N (suc p) k = (omega arith, omega arith) in
    same-position (position_in N rs t) (position (suc p) (suc k)) (omega (arith, page_le N page (suc p) k on here, page_le N (suc p) page k here on)) both
  where
    last : (i : ℕ) → i ≡ suc p * N → time_of rs i ≤ time_of rs (suc p * N)
    last i e = rw e (omega arith)

    next : suc (suc p * N) < length rs → time_of rs (suc p * N) < time_of rs (suc (suc p * N))
    next g = omega (arith, times-two-apart R rs ok (suc p * N - 1) (suc (suc p * N)) (omega (arith, suc-mul p N)) g)
