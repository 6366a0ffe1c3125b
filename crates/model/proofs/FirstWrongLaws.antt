-- An opening tells the first wrong record (02, wish 4): `open_of` answers at 17 the number that the wish asks for; of one log
-- there is one such number; and it is one of those that 01 asks for. Assumes nothing.
use Prim.Native.Nat.{ℕ, zero, suc, ◌≤◌, ◌<◌}
use mathlib.Core.Path.{◌≡◌, refl, sym, ap, subst, ◌∙◌}
use mathlib.Core.Logic.{inl, inr, ◌↔◌}
use mathlib.Core.List.{List, [], append-nil}
use mathlib.Core.Bool.{Bool, true, false, ◌&&◌, false≢true}
use native.Mathlib.Omega.{arith}
use lib.ListN.{length, take, drop}
use lib.Dec.{eqb, ltb}
use borrow.Author.Tests.{eq-eqb, eqb-true, ltb-true, ltb-false}
use Rattle.model.specs.Answers.{Outcome, answers, refuses, refuses_at, first_no}
use Rattle.model.specs.Records.{Rec, records_of, header_limit, header_records, header_last}
use Rattle.model.specs.Legal.{legal, last_time, first_wrong}
use Rattle.model.specs.Starts.{open_questions, well_written, open_of}
use Rattle.model.specs.FirstWrong.{BeginLegal, SmallestWrong, FirstWrongAt, DueAt17, TellsFirstWrong, FirstWrongIsOne, WrongRecord}
use Rattle.model.proofs.Compare.{Compared, less, same, more, compared, and_left, and_right}
use Rattle.model.proofs.LegalLaws.{legal_front}
use Rattle.model.proofs.WrongLaws.{first_wrong_le, legal_of_first_wrong, first_wrong_bad, first_wrong_before}
use Rattle.model.proofs.RecordLaws.{length-records, take-records, legal-records-front}

-- the front of a legal log is legal, so records begin a legal log exactly where they are one
pub begin_iff_legal : (R : ℕ) (rs : List Rec) → BeginLegal R rs ↔ (legal R rs ≡ true)
begin_iff_legal R rs = (λ h. legal_front R rs h.more h.is_legal, λ e. record { more = []; is_legal = rw (append-nil rs) e })

module _ (log : List ℕ) where
  abbrev R : ℕ
  R = header_limit log

  abbrev n : ℕ
  n = header_records log

  abbrev rs : List Rec
  rs = records_of log n

  abbrev first : ℕ
  first = first_wrong R rs

  legal-front-of : (k : ℕ) → k ≤ n → legal R (take k rs) ≡ legal R (records_of log k)
  legal-front-of k h = ap (legal R) (take-records (drop 24 log) k n h)

  -- ---- the number that `first_wrong` gives is the wish's

  a-record : first < n → SmallestWrong log first
  a-record h =
      let l : length rs ≡ n = length-records (drop 24 log) n in
      let bad : legal R (records_of log (suc first)) ≡ false = sym (legal-front-of (suc first) (omega arith)) ∙ first_wrong_bad R rs (omega arith) in
      record {
        counted = omega arith;
        begin_none = λ b. false≢true (sym bad ∙ (begin_iff_legal R (records_of log (suc first))).0 b);
        smallest = λ j s. (begin_iff_legal R (records_of log (suc j))).1 (sym (legal-front-of (suc j) (omega arith)) ∙ first_wrong_before R rs (suc j) (omega arith));
      }

  first-wrong-is : (legal R rs && eqb (header_last log) (last_time rs)) ≡ false → FirstWrongAt log first
  first-wrong-is e = by (ltb first n) refl
    where
      by : (t : Bool) → ltb first n ≡ t → FirstWrongAt log first
      by true f = inl (a-record (ltb-true _ _ f))
      by false f =
          let g : n ≤ first = ltb-false first n f in
          let l : length rs ≡ n = length-records (drop 24 log) n in
          let ok : legal R rs ≡ true = legal_of_first_wrong R rs (omega (arith, first_wrong_le R rs)) in
          inr (record { is_count = omega (arith, first_wrong_le R rs); all_legal = ok; last_wrong = λ q. false≢true (sym e ∙ rw (ok, eq-eqb _ _ q)) })

  -- ---- and no other is

  -- where a record is wrong, not all are legal
  not-all : (k : ℕ) → SmallestWrong log k → legal R rs ≡ true → ⊥
  not-all k s ok = s.begin_none ((begin_iff_legal R (records_of log (suc k))).1 (legal-records-front (drop 24 log) R n (suc k) (omega (arith, s.counted)) ok))

  first-wrong-one : (j k : ℕ) → FirstWrongAt log j → FirstWrongAt log k → j ≡ k
  first-wrong-one j k (inl a) (inl b) = by (compared j k)
    where
      by : Compared j k → j ≡ k
      by (less h) = absurd (a.begin_none (b.smallest j (omega arith)))
      by (same e) = e
      by (more h) = absurd (b.begin_none (a.smallest k (omega arith)))
  first-wrong-one j k (inl a) (inr b) = absurd (not-all j a b.all_legal)
  first-wrong-one j k (inr a) (inl b) = absurd (not-all k b a.all_legal)
  first-wrong-one j k (inr a) (inr b) = a.is_count ∙ sym b.is_count

  -- where there is such a number the log is not well written
  wrong-of-first : (k : ℕ) → FirstWrongAt log k → (legal R rs && eqb (header_last log) (last_time rs)) ≡ true → ⊥
  wrong-of-first k (inl a) e = not-all k a (and_left (legal R rs) (eqb (header_last log) (last_time rs)) e)
  wrong-of-first k (inr a) e = a.last_wrong (eqb-true _ _ (and_right (legal R rs) (eqb (header_last log) (last_time rs)) e))

  -- the wish's number is one of those that 01 asks for
  pub wrong_record_of_first : (k : ℕ) → FirstWrongAt log k → WrongRecord log k
  wrong_record_of_first k (inl a) = inl (a.counted, a.begin_none)
  wrong_record_of_first k (inr a) = inr a

-- "It is then no longer left open"
pub first_wrong_is_one : FirstWrongIsOne
first_wrong_is_one log = first-wrong-one log

-- ---- what an opening answers

pub tells_first_wrong : TellsFirstWrong
unfolding open_of well_written
tells_first_wrong m k = (λ e. told e (first_no (open_questions m)) refl (well_written m) refl, λ h. telling h.0 h.1 (well_written m) refl)
  where
    told : (open_of m).outcome ≡ refuses_at 17 k → (q : ℕ) → first_no (open_questions m) ≡ q → (b : Bool) → well_written m ≡ b → DueAt17 m k
    told e zero q false w =
        let at : ◌≡◌ {A = Outcome Unit} (refuses_at 17 (first m.log)) (refuses_at 17 k) = rw (q, w) at e in
        let is : first m.log ≡ k = cc in
        (q, subst (FirstWrongAt m.log) is (first-wrong-is m.log w))
    told e zero q true w =
        let no : ◌≡◌ {A = Outcome Unit} (answers tt) (refuses_at 17 k) = rw (q, w) at e in
        let z : ◌≡◌ {A = ℕ} 0 1 = cc in
        absurd (omega arith)
    told e (suc j) q b w =
        let no : ◌≡◌ {A = Outcome Unit} (refuses (suc j)) (refuses_at 17 k) = rw q at e in
        let z : ◌≡◌ {A = ℕ} 0 1 = cc in
        absurd (omega arith)

    telling : first_no (open_questions m) ≡ 0 → FirstWrongAt m.log k → (b : Bool) → well_written m ≡ b → (open_of m).outcome ≡ refuses_at 17 k
    telling q h true w = absurd (wrong-of-first m.log k h w)
    telling q h false w = rw (q, w) (ap (refuses_at 17) (first-wrong-one m.log (first m.log) k (first-wrong-is m.log w) h))
