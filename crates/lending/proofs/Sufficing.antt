-- Where the lengths answered are lent, no call is refused for want of memory: of each question that asks for memory the answer is
-- yes, and a refusal by any other is none of these. Assumes nothing.
use Prim.Native.Nat.{ℕ, ◌+◌, ◌*◌, ◌≤◌, ◌<◌}
use mathlib.Core.Path.{◌≡◌, refl, sym, ap, ◌∙◌}
use mathlib.Core.List.{List, [], ◌∷◌}
use mathlib.Core.Bool.{Bool, true, false, cond, ◌&&◌, false≢true}
use native.Mathlib.Omega.{arith}
use lib.ListN.{length}
use lib.IntN.{ℤ}
use lib.Dec.{leb}
use borrow.Author.Tests.{le-leb, lt-ltb}
use Rattle.model.specs.declared.Position.{Position}
use Rattle.model.specs.declared.TableSaid.{TableSaid}
use Rattle.model.specs.declared.OutsetSaid.{OutsetSaid}
use Rattle.model.specs.Answers.{Outcome, answers, refuses, refuses_at, Question, first_no}
use Rattle.model.specs.Settings.{records_in_range}
use Rattle.model.specs.Pages.{index_need}
use Rattle.model.specs.Memory.{Memory, State, standing, capacity_of, log_long, index_long, table_long}
use Rattle.model.specs.Starts.{Result, After, after, not_started, fresh_of, open_questions, well_written, open_of}
use Rattle.model.specs.Changes.{unchanged, room_for, insert_questions, present_questions, insert_of, delete_of, update_of}
use Rattle.model.specs.Queries.{Written, Viewed, Netted, table_questions, net_questions, position_of, table_of, view_of, net_of}
use Rattle.model.specs.Files.{keep_questions, keep_of, drop_questions, drop_of, drop_marked_questions, drop_marked_of}
use Rattle.model.specs.Promises.{refused_by}
use Rattle.model.specs.Units.{units_of, difference_of}
use Rattle.model.specs.Calls.{Call, answer_of, Accepted}
use Rattle.model.proofs.Compare.{and_both}
use Rattle.model.proofs.AuditLaws.{within_capacity}
use Rattle.model.proofs.PromiseLaws.{unless}
use Rattle.pages.proofs.PagedLaws.{index_need_mono}
use Rattle.lending.specs.declared.Lengths.{Lengths}
use Rattle.lending.specs.Lengths.{lengths_for, lengths_of}
use Rattle.lending.specs.Enough.{Enough, SettingsAre, HeaderSays, lacking, said_lacking, Within, EnoughForCall, EnoughToStart}
use Rattle.lending.proofs.Answered.{Answered, answered}

-- ---- questions that ask for memory, answered yes

-- b is true, where it is asked for
unfoldable sure : Bool → Bool → Type 0 → Type 0
sure true b more = (b ≡ true) × more
sure false b more = more

-- every question that asks for memory is answered yes
unfoldable Supplied : List Question → Type 0
Supplied [] = Unit
Supplied (q ∷ qs) = sure (lacking {A = Unit} (refuses q.number)) q.yes (Supplied qs)

-- then the first no is no want of memory
supplied : (A : Type 0) (qs : List Question) → Supplied qs → lacking {A = A} (refuses (first_no qs)) ≡ false
unfolding sure Supplied first_no lacking refused_by
supplied A [] h = refl
supplied A (q ∷ qs) h = by (supplied A qs) q.yes refl (lacking {A = Unit} (refuses q.number)) refl h
  where
    by : (Supplied qs → lacking {A = A} (refuses (first_no qs)) ≡ false) → (b : Bool) → q.yes ≡ b → (w : Bool) → lacking {A = Unit} (refuses q.number) ≡ w
        → sure w q.yes (Supplied qs) → lacking {A = A} (refuses (first_no (q ∷ qs))) ≡ false
    by ih true e true ew h = rw e (ih h.1)
    by ih true e false ew h = rw e (ih h)
    by ih false e true ew h = absurd (false≢true (sym e ∙ h.0))
    by ih false e false ew h = rw e ew

abbrev change_lacks : After → Bool
change_lacks r = lacking r.outcome

-- ---- the five regions

module _ (d N R n f : ℕ) (l : Lengths) (a : Answered d N R n f l) where
  -- an index for n records serves fewer
  pub index_serves : (k words : ℕ) → k ≤ n → index_need d N n ≤ words → index_need d N k ≤ words
  index_serves k words h g =
      omega (arith, index_need_mono d N k n a.settings.order_low (omega (arith, a.settings.page_low)) h)

  module _ (st : State) (s : SettingsAre d N R st.numbers) (e : Enough (lengths_for d N R n f) st.memory) where
    room : (more : ℕ) → st.numbers.records + more ≤ n → Supplied (room_for st more)
    unfolding sure Supplied lacking refused_by records_in_range log_long index_long
    room more h =
        let k : ℕ = st.numbers.records + more in
        let same : index_need st.numbers.order st.numbers.page k ≡ index_need d N k = cc (s.order_is, s.page_is) in
        let index : index_need st.numbers.order st.numbers.page k ≤ length st.memory.index = rw same (index_serves k _ h e.long_index) in (
          and_both (le-leb k 65536 (omega (arith, a.records_few))) (le-leb (24 + 24 * k) (length st.memory.log) (omega (arith, e.long_log))),
          (le-leb _ _ index, tt),
        )

    free : st.numbers.files + 1 ≤ f → st.numbers.files < capacity_of st.numbers.limit st.memory
    free h =
        let m = st.memory in
        let entries = length m.catalogue in
        let all = within_capacity R entries (length m.areas) f a.settings.limit_low a.files_few e.entries_long e.areas_long in
        let same : capacity_of st.numbers.limit m ≡ capacity_of R m = ap (λ (r : ℕ). capacity_of r m) s.limit_is in
        omega arith

    long : (k bytes : ℕ) → k * R ≤ bytes → leb (k * st.numbers.limit) bytes ≡ true
    long k bytes h = rw s.limit_is (le-leb (k * R) bytes h)

    call : (c : Call) → Within n f (lengths_for d N R n f) st c → said_lacking (answer_of st c) ≡ false
    unfolding Within said_lacking answer_of lacking refused_by sure Supplied insert_of delete_of update_of position_of table_of view_of net_of units_of difference_of keep_of drop_of drop_marked_of
    call (Call.insert t x c) h =
        unless change_lacks (first_no (insert_questions st t x)) _ (unchanged st) refl (supplied Unit (insert_questions st t x) (room 1 h))
    call (Call.delete t x) h =
        unless change_lacks (first_no (present_questions st t x 1)) _ (unchanged st) refl (supplied Unit (present_questions st t x 1) (room 1 h))
    call (Call.update t x c) h =
        unless change_lacks (first_no (present_questions st t x 2)) _ (unchanged st) refl (supplied Unit (present_questions st t x 2) (room 2 h))
    call (Call.position t) h =
        unless (λ (r : Outcome Position). lacking r) (first_no (standing st)) _ refuses refl (supplied Position (standing st) tt)
    call (Call.table t out) h =
        unless (λ (r : Written TableSaid). lacking r.outcome) (first_no (table_questions st out)) _ _ refl
        (supplied TableSaid (table_questions st out) (long 8 (length out) (omega arith), tt))
    call (Call.view t) h =
        unless (λ (r : Viewed). lacking r.outcome) (first_no (standing st)) _ _ refl (supplied OutsetSaid (standing st) tt)
    call (Call.net_change x y out work) h =
        unless (λ (r : Netted). lacking r.outcome) (first_no (net_questions st out work)) _ _ refl
        (supplied ℕ (net_questions st out work)
        (and_both (long 24 (length out) (omega (arith, h.0))) (long 16 (length work) (omega (arith, h.1))), tt))
    call (Call.units t) h = unless (λ (r : Outcome ℕ). lacking r) (first_no (standing st)) _ refuses refl (supplied ℕ (standing st) tt)
    call (Call.difference x y) h =
        unless (λ (r : Outcome ℤ). lacking r) (first_no (standing st)) _ refuses refl (supplied ℤ (standing st) tt)
    call (Call.keep t k) h =
        unless change_lacks (first_no (keep_questions st t k)) _ (unchanged st) refl (supplied Unit (keep_questions st t k) (lt-ltb _ _ (free h), tt))
    call (Call.drop t) h = unless change_lacks (first_no (drop_questions st t)) _ (unchanged st) refl (supplied Unit (drop_questions st t) tt)
    call (Call.drop_marked k) h =
        unless (λ (r : Result ℕ). lacking r.outcome) (first_no (drop_marked_questions st k)) _ (unchanged st) refl (supplied ℕ (drop_marked_questions st k) tt)
    call Call.audit h = refl

  -- ---- starts

  fresh-accepted : (m : Memory) → Enough (lengths_for d N R n f) m → Accepted (fresh_of d N R m)
  unfolding fresh_of first_no table_long
  fresh-accepted m e =
      let space : (leb 24 (length m.log) && leb (8 * R) (length m.table)) ≡ true =
      and_both (le-leb 24 (length m.log) (omega (arith, e.long_log))) (le-leb (8 * R) (length m.table) (omega (arith, e.long_table))) in
      rw (a.go_on, space)

  open-supplied : (m : Memory) (k : ℕ) → k ≤ n → HeaderSays d N R k m.log → Enough (lengths_for d N R n f) m → lacking (open_of m).outcome ≡ false
  unfolding open_of lacking refused_by sure Supplied records_in_range log_long index_long table_long
  open-supplied m k h says e =
      unless change_lacks (first_no (open_questions m)) _ (not_started m) (either (well_written m) _ _ _)
      (supplied Unit (open_questions m) (rw (says.order_is, says.page_is, says.limit_is, says.records_is) space, tt))
    where
      -- accepted, or refused by 17
      either : (b : Bool) (r : ℕ) (x y : State) → lacking (cond {A = After} b (after (answers tt) x) (after (refuses_at 17 r) y)).outcome ≡ false
      either true r x y = refl
      either false r x y = refl

      log : (leb k 65536 && leb (24 + 24 * k) (length m.log)) ≡ true
      log = and_both (le-leb k 65536 (omega (arith, a.records_few))) (le-leb (24 + 24 * k) (length m.log) (omega (arith, e.long_log)))

      index : leb (index_need d N k) (length m.index) ≡ true
      index = le-leb _ _ (index_serves k (length m.index) h e.long_index)

      space : (leb k 65536 && leb (24 + 24 * k) (length m.log) && leb (index_need d N k) (length m.index) && leb (8 * R) (length m.table)) ≡ true
      space = and_both (and_both log index) (le-leb (8 * R) (length m.table) (omega (arith, e.long_table)))

-- ---- the theorems

pub enough_for_call : (d N R n f : ℕ) (l : Lengths) → lengths_of d N R n f ≡ answers l → EnoughForCall d N R n f l
enough_for_call d N R n f l e = let a = answered d N R n f l e in rw a.lengths_are (call d N R n f l a)

pub enough_to_start : (d N R n f : ℕ) (l : Lengths) → lengths_of d N R n f ≡ answers l → EnoughToStart d N R n l
enough_to_start d N R n f l e =
    let a = answered d N R n f l e in
    rw a.lengths_are (record { fresh_store = fresh-accepted d N R n f l a; opened = open-supplied d N R n f l a })
