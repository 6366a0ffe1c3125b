-- Insert, delete and update of a state in order leave one in order: an accepted call appends records that may follow, a
-- refused one leaves the state as it was. Assumes nothing.
use Prim.Native.Nat.{ℕ, zero, suc, ◌+◌, ◌*◌, ◌^◌, ◌≤◌, ◌<◌}
use mathlib.Core.Path.{◌≡◌, sym, ap, ◌∙◌}
use mathlib.Core.List.{List, [], ◌∷◌, ◌++◌}
use mathlib.Core.Bool.{true, false, not, ◌&&◌}
use native.Mathlib.Omega.{arith}
use lib.ListN.{length, get_or}
use lib.Dec.{leb, ltb}
use borrow.Author.Tests.{leb-true, ltb-true, not-true}
use Rattle.model.specs.Answers.{question, first_no}
use Rattle.model.specs.Settings.{records_in_range}
use Rattle.model.specs.Records.{Rec, no_record, insertion, deletion}
use Rattle.model.specs.Rows.{Row, lacks, count_of}
use Rattle.model.specs.Timeslice.{table}
use Rattle.model.specs.Legal.{legal, last_time}
use Rattle.model.specs.Pages.{index_need}
use Rattle.model.specs.Memory.{State, log_of, rows_now, sound, log_long, index_long}
use Rattle.model.specs.Changes.{appended, room_for, insert_questions, present_questions, insert_of, delete_of, update_of}
use Rattle.model.specs.Calls.{Call, CallFits}
use Rattle.model.proofs.Compare.{and_left, and_right}
use Rattle.model.proofs.AppendLaws.{last_time_snoc, last_time_update, legal-insertion, legal-deletion, legal_update}
use Rattle.logs.specs.Widths.{RecordFits, RecordsFit}
use Rattle.model.specs.Facts.{AuditedFacts, InOrder}
use Rattle.claims.specs.Following.{MayFollow}
use Rattle.model.proofs.AuditLaws.{audited_facts}
use Rattle.model.proofs.Leaving.{either_left}
use Rattle.claims.proofs.FactLaws.{length-log, rows_now_lem, count_fits}
use Rattle.claims.proofs.Regions.{asked}
use Rattle.claims.proofs.Appended.{appended_in_order}

-- ---- room

pub record RoomFor (st : State) (more : ℕ) : Type 0 where
  pub few : st.numbers.records + more ≤ 65536
  pub log_room : 24 + 24 * (st.numbers.records + more) ≤ length st.memory.log
  pub room_in_index : index_need st.numbers.order st.numbers.page (st.numbers.records + more) ≤ length st.memory.index

pub room_of : (st : State) (more : ℕ) → first_no (room_for st more) ≡ 0 → RoomFor st more
unfolding records_in_range log_long index_long
room_of st more q =
    let n : ℕ = st.numbers.records + more in
    let few = leb n 65536 in
    let log = leb (24 + 24 * n) (length st.memory.log) in
    let index = leb (index_need st.numbers.order st.numbers.page n) (length st.memory.index) in
    let a = asked 9 (few && log) (question 11 index ∷ []) q in
    let b = asked 10 index [] a.1 in
    record { few = leb-true _ _ (and_left few log a.0); log_room = leb-true _ _ (and_right few log a.0); room_in_index = leb-true _ _ b.0 }

-- ---- the very records

module _ (st : State) (o : InOrder st) (t a c : ℕ) (tf : t < 2 ^ 64) (af : a < 2 ^ 32) (cf : c < 2 ^ 32) (late : st.numbers.last < t) where
  abbrev n : ℕ
  n = st.numbers.records

  abbrev rs : List Rec
  rs = log_of st

  abbrev gone : Rec
  gone = deletion n t a (count_of a (rows_now st))

  facts : AuditedFacts st
  facts = audited_facts st o.audited

  after-log : last_time rs < t
  after-log = rw (← facts.last_is) late

  now : rows_now st ≡ table rs
  now = rows_now_lem st facts

  insertion-fits : (k : ℕ) → k ≤ 65536 → RecordFits (insertion k t a c)
  insertion-fits k h =
      record { size_fits = omega arith; kind_fits = omega arith; id_fits = omega arith; time_fits = tf; article_fits = af; count_fits = cf }

  deletion-fits : (k : ℕ) → k ≤ 65536 → RecordFits (deletion k t a (count_of a (rows_now st)))
  deletion-fits k h =
      record { size_fits = omega arith; kind_fits = omega arith; id_fits = omega arith; time_fits = tf; article_fits = af; count_fits = count_fits st o.lendable a }

  pub insertion_follows : lacks a (rows_now st) ≡ true → st.numbers.live < st.numbers.limit → RoomFor st 1 → MayFollow st t (insertion n t a c ∷ [])
  unfolding RecordsFit
  insertion_follows absent free room =
      let rows : lacks a (table rs) ≡ true = rw now at absent in
      let space : length (table rs) < st.numbers.limit = rw (← now, ← facts.live_is) free in
      record {
        legal_with =
            ap (λ (k : ℕ). legal st.numbers.limit (rs ++ (insertion k t a c ∷ []))) (sym (length-log st))
            ∙ legal-insertion st.numbers.limit rs facts.log_legal t a c after-log rows space;
        ends_at = last_time_snoc rs (insertion n t a c);
        time_fits = tf;
        after_last = late;
        all_after = times;
        new_fit = (insertion-fits n (omega (arith, facts.limits.records_few)), tt);
        records_few = room.few;
        log_room = room.log_room;
        room_in_index = room.room_in_index;
      }
    where
      times : (i : ℕ) → i < 1 → st.numbers.last < (get_or (insertion n t a c ∷ []) i no_record).time
      times zero h = late
      times (suc i) h = absurd (omega arith)

  pub deletion_follows : lacks a (rows_now st) ≡ false → RoomFor st 1 → MayFollow st t (gone ∷ [])
  unfolding RecordsFit
  deletion_follows there room =
      record {
        legal_with =
            ap (λ (k : ℕ). legal st.numbers.limit (rs ++ (deletion k t a (count_of a (rows_now st)) ∷ []))) (sym (length-log st))
            ∙ ap (λ (T : List Row). legal st.numbers.limit (rs ++ (deletion (length rs) t a (count_of a T) ∷ []))) now
            ∙ legal-deletion st.numbers.limit rs facts.log_legal t a c after-log (rw now at there);
        ends_at = last_time_snoc rs gone;
        time_fits = tf;
        after_last = late;
        all_after = times;
        new_fit = (deletion-fits n (omega (arith, facts.limits.records_few)), tt);
        records_few = room.few;
        log_room = room.log_room;
        room_in_index = room.room_in_index;
      }
    where
      times : (i : ℕ) → i < 1 → st.numbers.last < (get_or (gone ∷ []) i no_record).time
      times zero h = late
      times (suc i) h = absurd (omega arith)

  pub update_follows : lacks a (rows_now st) ≡ false → RoomFor st 2 → MayFollow st t (gone ∷ insertion (suc n) t a c ∷ [])
  unfolding RecordsFit
  update_follows there room =
      record {
        legal_with =
            ap (λ (k : ℕ). legal st.numbers.limit (rs ++ (deletion k t a (count_of a (rows_now st)) ∷ insertion (suc k) t a c ∷ []))) (sym (length-log st))
            ∙ ap (λ (T : List Row). legal st.numbers.limit (rs ++ (deletion (length rs) t a (count_of a T) ∷ insertion (suc (length rs)) t a c ∷ []))) now
            ∙ legal_update st.numbers.limit rs facts.log_legal t a c after-log (rw now at there);
        ends_at = last_time_update rs gone (insertion (suc n) t a c);
        time_fits = tf;
        after_last = late;
        all_after = times;
        new_fit = (deletion-fits n (omega (arith, facts.limits.records_few)), (insertion-fits (suc n) (omega (arith, room.few)), tt));
        records_few = room.few;
        log_room = room.log_room;
        room_in_index = room.room_in_index;
      }
    where
      times : (i : ℕ) → i < 2 → st.numbers.last < (get_or (gone ∷ insertion (suc n) t a c ∷ []) i no_record).time
      times zero h = late
      times (suc zero) h = late
      times (suc (suc i)) h = absurd (omega arith)

-- ---- the calls

pub insert_may_follow : (st : State) (t a c : ℕ) → InOrder st → CallFits (Call.insert t a c) → first_no (insert_questions st t a) ≡ 0
    → MayFollow st t (insertion st.numbers.records t a c ∷ [])
unfolding CallFits
insert_may_follow st t a c o f q =
    let above = ltb st.numbers.last t in
    let absent = lacks a (rows_now st) in
    let free = ltb st.numbers.live st.numbers.limit in
    let q1 = asked 0 (sound st) (question 6 above ∷ question 7 absent ∷ question 9 free ∷ room_for st 1) q in
    let q6 = asked 5 above (question 7 absent ∷ question 9 free ∷ room_for st 1) q1.1 in
    let q7 = asked 6 absent (question 9 free ∷ room_for st 1) q6.1 in
    let q9 = asked 8 free (room_for st 1) q7.1 in
    insertion_follows st o t a c f.0 f.1.0 f.1.1 (ltb-true _ _ q6.0) q7.0 (ltb-true _ _ q9.0) (room_of st 1 q9.1)

-- what the questions of delete and update say
pub present_asked : (st : State) (t a more : ℕ) → first_no (present_questions st t a more) ≡ 0 → (st.numbers.last < t) × ((lacks a (rows_now st) ≡ false) × RoomFor st more)
present_asked st t a more q =
    let above = ltb st.numbers.last t in
    let there = not (lacks a (rows_now st)) in
    let q1 = asked 0 (sound st) (question 6 above ∷ question 8 there ∷ room_for st more) q in
    let q6 = asked 5 above (question 8 there ∷ room_for st more) q1.1 in
    let q8 = asked 7 there (room_for st more) q6.1 in
    (ltb-true _ _ q6.0, (not-true (lacks a (rows_now st)) q8.0, room_of st more q8.1))

pub delete_may_follow : (st : State) (t a : ℕ) → InOrder st → CallFits (Call.delete t a) → first_no (present_questions st t a 1) ≡ 0
    → MayFollow st t (deletion st.numbers.records t a (count_of a (rows_now st)) ∷ [])
unfolding CallFits
delete_may_follow st t a o f q =
    let h = present_asked st t a 1 q in
    deletion_follows st o t a 0 f.0 f.1 (omega arith) h.0 h.1.0 h.1.1

pub update_may_follow : (st : State) (t a c : ℕ) → InOrder st → CallFits (Call.update t a c) → first_no (present_questions st t a 2) ≡ 0
    → MayFollow st t (deletion st.numbers.records t a (count_of a (rows_now st)) ∷ insertion (suc st.numbers.records) t a c ∷ [])
unfolding CallFits
update_may_follow st t a c o f q =
    let h = present_asked st t a 2 q in
    update_follows st o t a c f.0 f.1.0 f.1.1 h.0 h.1.0 h.1.1

-- what holds of the state, and wherever records that may follow it were appended, holds of the one that a call leaves
module _ (P : State → Type 0) (st : State) (o : InOrder st) (stood : P st)
    (new : (t : ℕ) (rs : List Rec) → MayFollow st t rs → P (appended st t rs)) where
  pub insert_leaves : (t a c : ℕ) → CallFits (Call.insert t a c) → P (insert_of st t a c).state
  unfolding insert_of
  insert_leaves t a c f = either_left P tt (first_no (insert_questions st t a)) st _ stood (λ q. new t _ (insert_may_follow st t a c o f q))

  pub delete_leaves : (t a : ℕ) → CallFits (Call.delete t a) → P (delete_of st t a).state
  unfolding delete_of
  delete_leaves t a f = either_left P tt (first_no (present_questions st t a 1)) st _ stood (λ q. new t _ (delete_may_follow st t a o f q))

  pub update_leaves : (t a c : ℕ) → CallFits (Call.update t a c) → P (update_of st t a c).state
  unfolding update_of
  update_leaves t a c f = either_left P tt (first_no (present_questions st t a 2)) st _ stood (λ q. new t _ (update_may_follow st t a c o f q))

module _ (st : State) where
  pub insert_audited : (t a c : ℕ) → InOrder st → CallFits (Call.insert t a c) → InOrder (insert_of st t a c).state
  insert_audited t a c o = insert_leaves (λ x. InOrder x) st o o (λ t rs. appended_in_order st t rs o) t a c

  pub delete_audited : (t a : ℕ) → InOrder st → CallFits (Call.delete t a) → InOrder (delete_of st t a).state
  delete_audited t a o = delete_leaves (λ x. InOrder x) st o o (λ t rs. appended_in_order st t rs o) t a

  pub update_audited : (t a c : ℕ) → InOrder st → CallFits (Call.update t a c) → InOrder (update_of st t a c).state
  update_audited t a c o = update_leaves (λ x. InOrder x) st o o (λ t rs. appended_in_order st t rs o) t a c
