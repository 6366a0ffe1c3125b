-- Where a region is shorter than the lengths answered, some call is refused for it: its question is answered no, and those before
-- it yes. Assumes nothing.
use Prim.Native.Nat.{ℕ, ◌+◌, ◌*◌, ◌/◌, ◌≤◌, ◌<◌}
use mathlib.Core.Path.{◌≡◌, ap}
use mathlib.Core.Logic.{◌⊎◌, inl, inr}
use mathlib.Core.List.{List, ◌++◌}
use mathlib.Core.Bool.{Bool, true, false, ◌&&◌, and-false}
use native.Mathlib.Omega.{arith}
use native.Mathlib.Nat.{div-lt_iff_lt-mul, mul_comm}
use lib.ListN.{length}
use lib.Dec.{leb}
use borrow.Author.Tests.{le-leb, lt-leb, le-ltb, ne_eqb}
use Rattle.model.specs.Answers.{answers, refuses, Question, first_no}
use Rattle.model.specs.Settings.{records_in_range, settings_questions}
use Rattle.model.specs.Records.{header_order, header_page, header_limit}
use Rattle.model.specs.Pages.{index_need}
use Rattle.model.specs.Marks.{is_mark}
use Rattle.model.specs.Memory.{Memory, State, sound, capacity, capacity_of, log_long, index_long, table_long}
use Rattle.model.specs.Starts.{fresh_of, open_of}
use Rattle.model.specs.Changes.{room_for}
use Rattle.model.specs.Queries.{net_of}
use Rattle.model.specs.Files.{files_of, is_kept, keep_of}
use Rattle.model.proofs.Compare.{and_both}
use Rattle.model.proofs.AuditLaws.{capacity_entries, capacity_areas}
use Rattle.logs.specs.Headers.{begins_log}
use Rattle.lending.specs.declared.Lengths.{Lengths}
use Rattle.lending.specs.Lengths.{lengths_for, lengths_of}
use Rattle.lending.specs.Enough.{SettingsAre, HeaderSays, NoLess}
use Rattle.lending.proofs.Answered.{Answered, answered}

either_no : (p q : Bool) → (p ≡ false) ⊎ (q ≡ false) → (p && q) ≡ false
either_no p q (inl e) = rw e
either_no p q (inr e) = rw e (and-false p)

-- too few entries or areas for k files
short-capacity : (R entries bytes k : ℕ) → 1 ≤ R → (entries < k) ⊎ (bytes < 8 * R * k) → capacity R entries bytes < k
short-capacity R entries bytes k some (inl h) = omega (arith, capacity_entries R entries bytes)
short-capacity R entries bytes k some (inr h) =
    let fewer : bytes / (8 * R) < k = (div-lt_iff_lt-mul {k = 8 * R} {x = bytes} {y = k} (omega arith)).1 (omega (arith, mul_comm (8 * R) k)) in
    omega (arith, capacity_areas R entries bytes)

module _ (d N R n f : ℕ) (l : Lengths) (a : Answered d N R n f l) where
  abbrev lent : Lengths
  lent = lengths_for d N R n f

  -- ---- starts

  fresh-short : (m : Memory) → (length m.log < 24) ⊎ (length m.table < lent.table) → (fresh_of d N R m).outcome ≡ refuses 5
  unfolding fresh_of first_no table_long
  fresh-short m h = rw (a.go_on, either_no (leb 24 (length m.log)) (leb (8 * R) (length m.table)) (no h))
    where
      no : (length m.log < 24) ⊎ (length m.table < lent.table)
          → (leb 24 (length m.log) ≡ false) ⊎ (leb (8 * R) (length m.table) ≡ false)
      no (inl g) = inl (lt-leb _ _ g)
      no (inr g) = inr (lt-leb (8 * R) (length m.table) (omega arith))

  module _ (m : Memory) (says : HeaderSays d N R n m.log) where
    header-goes-on : (qs : List Question)
        → first_no (settings_questions (header_order m.log) (header_page m.log) (header_limit m.log) ++ qs) ≡ first_no qs
    header-goes-on qs = rw (says.order_is, says.page_is, says.limit_is) (a.go_on qs)

    open-short : begins_log m.log ≡ true → (length m.log < lent.log) ⊎ ((length m.index < lent.index) ⊎ (length m.table < lent.table))
        → (open_of m).outcome ≡ refuses 5
    unfolding open_of first_no records_in_range log_long index_long table_long
    open-short begins h = rw (begins, header-goes-on, says.order_is, says.page_is, says.limit_is, says.records_is, no h)
      where
        few : Bool
        few = leb n 65536

        log : Bool
        log = leb (24 + 24 * n) (length m.log)

        index : Bool
        index = leb (index_need d N n) (length m.index)

        table : Bool
        table = leb (8 * R) (length m.table)

        no : (length m.log < lent.log) ⊎ ((length m.index < lent.index) ⊎ (length m.table < lent.table))
            → (few && log && index && table) ≡ false
        no (inl g) =
            let e : log ≡ false = lt-leb (24 + 24 * n) (length m.log) (omega arith) in
            either_no (few && log && index) table (inl (either_no (few && log) index (inl (either_no few log (inr e)))))
        no (inr (inl g)) =
            let e : index ≡ false = lt-leb (index_need d N n) (length m.index) (omega arith) in
            either_no (few && log && index) table (inl (either_no (few && log) index (inr e)))
        no (inr (inr g)) = either_no (few && log && index) table (inr (lt-leb (8 * R) (length m.table) (omega arith)))

  -- ---- calls

  module _ (st : State) (more : ℕ) (last : st.numbers.records + more ≡ n) where
    log-short : length st.memory.log < lent.log → first_no (room_for st more) ≡ 10
    unfolding first_no log_long
    log-short h =
        let k : ℕ = st.numbers.records + more in
        let log = leb (24 + 24 * k) (length st.memory.log) in
        rw (either_no (records_in_range k) log (inr (lt-leb (24 + 24 * k) (length st.memory.log) (omega arith))))

    index_short : SettingsAre d N R st.numbers → lent.log ≤ length st.memory.log → length st.memory.index < lent.index
        → first_no (room_for st more) ≡ 11
    unfolding first_no records_in_range log_long index_long
    index_short s long h =
        let k : ℕ = st.numbers.records + more in
        let same : index_need st.numbers.order st.numbers.page k ≡ index_need d N n = cc (s.order_is, s.page_is) in
        rw (
          and_both (le-leb k 65536 (omega (arith, a.records_few))) (le-leb (24 + 24 * k) (length st.memory.log) (omega arith)),
          lt-leb (index_need st.numbers.order st.numbers.page k) (length st.memory.index) (omega arith),
        )

  module _ (st : State) (s : SettingsAre d N R st.numbers) (first : sound st ≡ true) where
    keep-short : (t k : ℕ) → st.numbers.files + 1 ≡ f → 0 < t → t ≤ st.numbers.last → is_mark k ≡ true → is_kept t (files_of st) ≡ false
        → (length st.memory.catalogue < lent.entries) ⊎ (length st.memory.areas < lent.areas) → (keep_of st t k).outcome ≡ refuses 15
    unfolding keep_of first_no
    keep-short t k last some held marked new h =
        let m = st.memory in
        let full : capacity_of R m < f = short-capacity R (length m.catalogue) (length m.areas) f a.settings.limit_low h in
        let same : capacity_of st.numbers.limit m ≡ capacity_of R m = ap (λ (r : ℕ). capacity_of r m) s.limit_is in
        rw (
          first,
          le-leb t st.numbers.last held,
          marked,
          ne_eqb t 0 (λ e. omega arith),
          new,
          le-ltb st.numbers.files (capacity_of st.numbers.limit m) (omega arith),
        )

    net-short : (x y : ℕ) (out work : List ℕ)
        → (length out < lent.output) ⊎ (length work < lent.workspace) → (net_of st x y out work).outcome ≡ refuses 13
    unfolding net_of first_no
    net-short x y out work h = rw (first, no h)
      where
        r : ℕ
        r = st.numbers.limit

        written : Bool
        written = leb (24 * r) (length out)

        worked : Bool
        worked = leb (16 * r) (length work)

        no : (length out < lent.output) ⊎ (length work < lent.workspace) → (written && worked) ≡ false
        no (inl g) = either_no written worked (inl (lt-leb (24 * r) (length out) (omega (arith, s.limit_is))))
        no (inr g) = either_no written worked (inr (lt-leb (16 * r) (length work) (omega (arith, s.limit_is))))

-- ---- the theorem

pub no_less : (d N R n f : ℕ) (l : Lengths) → lengths_of d N R n f ≡ answers l → NoLess d N R n f l
no_less d N R n f l e =
    let a = answered d N R n f l e in
    rw a.lengths_are
    (record {
      fresh_store = fresh-short d N R n f l a;
      opened = λ m begins says. open-short d N R n f l a m says begins;
      log_full = log-short d N R n f l a;
      index_full = λ st more s last. index_short d N R n f l a st more last s;
      kept = λ st t k s last first. keep-short d N R n f l a st s first t k last;
      change_between = λ st x y out work s first. net-short d N R n f l a st s first x y out work;
    })
