-- The audit is exact: it passes just the states that accepted calls leave. Of a state that it passes, the memory itself is
-- opened, and then its files are kept one after the other: each keep writes what is there. Assumes nothing.
use Prim.Native.Nat.{ℕ, ◌+◌, ◌*◌, ◌^◌, ◌≤◌, ◌<◌}
use mathlib.Core.Path.{◌≡◌, refl, sym, ap, ◌∙◌}
use mathlib.Core.List.{List, [], ◌∷◌, ◌++◌, append_assoc, append-nil, map}
use mathlib.Core.Bool.{not, ◌&&◌}
use native.Mathlib.Omega.{arith}
use native.Mathlib.Nat.{mul_comm, mul-le-mul_right}
use lib.ListN.{length, take, drop, replicate, length-append, length-map, length-replicate, take-append-drop}
use lib.Seq.{take_at, take-take, drop-append-le}
use lib.Dec.{leb, ltb, eqb}
use borrow.Author.Tests.{le-leb, lt-ltb, ne_eqb}
use Rattle.codec.specs.Parts.{put}
use Rattle.codec.proofs.PartLaws.{length-put, drop-put, drop_replicate, put-part, put-nil}
use Rattle.model.specs.declared.Numbers.{Numbers}
use Rattle.model.specs.declared.Entry.{Entry}
use Rattle.model.specs.Answers.{first_no}
use Rattle.model.specs.Records.{header_last}
use Rattle.model.specs.Rows.{table_bytes}
use Rattle.model.specs.Timeslice.{timeslice}
use Rattle.model.specs.Marks.{is_mark}
use Rattle.model.specs.Memory.{Memory, State, no_entry, log_of, rows_now, sound, capacity_of, emptied}
use Rattle.model.specs.Starts.{opened_memory, opened_numbers, open_of}
use Rattle.model.specs.Files.{File, files_of, areas_bytes, entry_of, with_count, is_kept, keep_questions, file_at, keep_of}
use Rattle.model.specs.Promises.{store_of}
use Rattle.model.specs.Calls.{Start, begun, StartFits, CallFits, Accepted, Reachable}
use Rattle.model.specs.Demands.{HoldsLog, AuditExact}
use Rattle.model.specs.Facts.{AuditedFacts, InOrder}
use Rattle.model.proofs.AuditLaws.{audited_facts, audited_sound, capacity_entries, areas_within}
use Rattle.model.proofs.FileLaws.{entries_files_in}
use Rattle.model.proofs.MarkLaws.{mark_small}
use Rattle.claims.proofs.Regions.{answered, none-asked, length-emptied}
use Rattle.claims.proofs.Opened.{open_state}
use Rattle.claims.proofs.SecondDemands.{reads, same_log, opens_alike}
use Rattle.claims.proofs.FileFronts.{front_files, front_areas, NextFile, next_file}
use Rattle.claims.proofs.Kept.{length_files}
use Rattle.claims.proofs.Lists.{reachable_in_order}

-- stores are equal where their numbers and regions are
store_eq : {s s' : Numbers} {l l' i i' t t' : List ℕ} {c c' : List Entry} {a a' : List ℕ} → s ≡ s' → l ≡ l' → i ≡ i' → t ≡ t' → c ≡ c' → a ≡ a'
    → store_of s l i t c a ≡ store_of s' l' i' t' c' a'
store_eq p q r u v w = cc

numbers_eq : {d d' N N' R R' n n' u u' l l' k k' : ℕ} → d ≡ d' → N ≡ N' → R ≡ R' → n ≡ n' → u ≡ u' → l ≡ l' → k ≡ k'
    → ◌≡◌ {A = Numbers} (record { order = d; page = N; limit = R; records = n; last = u; live = l; files = k }) (record { order = d'; page = N'; limit = R'; records = n'; last = u'; live = l'; files = k' })
numbers_eq p q r s t u v = cc

-- a second write at the front, no shorter than the first
put_over : {A : Type 0} (xs us vs : List A) → length us ≤ length vs → put (put xs 0 us) 0 vs ≡ put xs 0 vs
put_over xs us vs h = ap (λ ys. vs ++ ys) (drop-put (0 + length vs) xs 0 us (omega arith) (omega arith))

module _ (st : State) (o : InOrder st) where
  abbrev m : Memory
  m = st.memory

  abbrev R : ℕ
  R = st.numbers.limit

  facts : AuditedFacts st
  facts = audited_facts st o.audited

  abbrev slots : ℕ
  slots = capacity_of st.numbers.limit st.memory

  -- the state with its first files only
  abbrev with : List File → State
  with gs = store_of (with_count st.numbers (length gs)) m.log m.index m.table (put (emptied st.numbers.limit st.memory) 0 (map entry_of gs)) m.areas

  -- ---- none of them: the memory opened

  holds : HoldsLog st st.memory
  holds = record { log_is = refl; long_log = facts.limits.long_log; long_index = facts.limits.long_index; long_table = facts.limits.long_table }

  start_is : (open_of m).state ≡ with []
  unfolding opened_memory opened_numbers
  start_is =
      let r = reads st o m o.lendable holds in
      let same = same_log st o m o.lendable holds in
      let rows : length (timeslice (header_last m.log) (log_of st)) ≡ st.numbers.live = rw r.last_is (sym facts.live_is) in
      let table : put m.table 0 (table_bytes R (rows_now st)) ≡ m.table = rw (← facts.table_is) (put-part m.table 0 (8 * R) (omega (arith, facts.limits.long_table))) in
      (open_state m (opens_alike st o m o.lendable holds).accepted).1
      ∙ rw same
      (store_eq (numbers_eq r.order_is r.page_is r.limit_is r.records_is r.last_is rows refl) refl
      (rw (r.order_is, r.page_is) facts.index_is) (rw (r.limit_is, r.last_is) table) (rw r.limit_is (sym (put-nil (emptied R m) 0))) refl)

  start-reached : Reachable (with [])
  unfolding begun StartFits
  start-reached = rw start_is at (Reachable.started (Start.opening m) o.lendable (opens_alike st o m o.lendable holds).accepted)

  -- ---- one more of them: a keep

  module _ (gs : List File) (f : File) (hs : List File) (cut : gs ++ (f ∷ hs) ≡ files_of st) (r : Reachable (with gs)) where
    t : ℕ
    t = f.entry.time

    next : NextFile st.numbers.limit st.numbers.last (log_of st) 0 gs f
    next = next_file R st.numbers.last (log_of st) 0 gs f hs (rw cut facts.files_are)

    fewer : length gs < st.numbers.files
    fewer = omega (arith, sym (length-append gs (f ∷ hs)) ∙ ap length cut ∙ length_files st facts)

    room : length gs < slots
    room = omega (arith, fewer, facts.limits.files_few)

    files-front : files_of (with gs) ≡ gs
    files-front =
        rw (take_at (map entry_of gs) (drop (0 + length (map entry_of gs)) (emptied R m)) (length gs) (length-map gs entry_of))
        (front_files R m.areas gs (f ∷ hs) 0 (take st.numbers.files m.catalogue) (sym cut))

    slots_same : capacity_of R (with gs).memory ≡ slots
    slots_same =
        let n : length (put (emptied R m) 0 (map entry_of gs)) ≡ length m.catalogue =
        length-put (emptied R m) 0 (map entry_of gs) (omega (arith, length-map gs entry_of, length-emptied R m, room, capacity_entries R (length m.catalogue) (length m.areas))) ∙ length-emptied R m in
        rw n

    keep_asked : first_no (keep_questions (with gs) f.entry.time f.entry.mark) ≡ 0
    keep_asked =
        let s = with gs in
        let u = f.entry.time in
        answered 0 (sound s) _ (audited_sound s (reachable_in_order r).audited)
        (answered 11 (leb u st.numbers.last) _ (le-leb _ _ next.is.held)
        (answered 17 (is_mark f.entry.mark) _ next.is.mark_is
        (answered 13 (not (eqb u 0) && not (is_kept u (files_of s))) _ (rw (ne_eqb u 0 (λ e. omega (arith, next.is.later)), files-front, next.not_kept))
        (answered 14 (ltb (length gs) (capacity_of R s.memory)) [] (rw slots_same (lt-ltb _ _ room)) none-asked))))

    file-is : file_at (with gs) f.entry.time f.entry.mark ≡ f
    file-is =
        let a = sym next.is.rows_are in
        let b = sym next.is.area_is in
        let g : ◌≡◌ {A = File} (file_at (with gs) f.entry.time f.entry.mark) (record { entry = record { time = f.entry.time; rows = f.entry.rows; mark = f.entry.mark }; area = f.area }) = cc in
        g

    areas_same : put m.areas 0 (areas_bytes (gs ++ (f ∷ []))) ≡ m.areas
    areas_same =
        let gs' = gs ++ (f ∷ []) in
        let cut' : files_of st ≡ gs' ++ hs = sym cut ∙ sym (append_assoc gs (f ∷ []) hs) in
        let n : length gs' ≡ length gs + 1 = length-append gs (f ∷ []) in
        let fit : length gs' ≤ slots = omega (arith, room) in
        let more : length gs' * (8 * R) ≤ slots * (8 * R) = mul-le-mul_right (8 * R) fit in
        let within = areas_within R (length m.catalogue) (length m.areas) facts.limits.limit_low in
        let none : 8 * R * 0 ≡ 0 = omega arith in
        let front : areas_bytes gs' ≡ take (8 * R * length gs') m.areas = front_areas R m.areas gs' hs 0 (take st.numbers.files m.catalogue) cut' ∙ rw none in
        rw front
        (put-part m.areas 0 (8 * R * length gs') (omega (arith, mul_comm (8 * R) (length gs'), mul_comm (8 * R) slots)))

    keep-is : (keep_of (with gs) f.entry.time f.entry.mark).state ≡ with (gs ++ (f ∷ []))
    unfolding keep_of
    keep-is =
        let gs' = gs ++ (f ∷ []) in
        let n : length gs + 1 ≡ length gs' = sym (length-append gs (f ∷ [])) in
        let short : length (map entry_of gs) ≤ length (map entry_of gs') = omega (arith, length-map gs entry_of, length-map gs' entry_of) in
        rw (keep_asked, file-is, files-front, next.goes_last)
        (store_eq (numbers_eq refl refl refl refl refl refl n) refl refl refl (put_over (emptied R m) (map entry_of gs) (map entry_of gs') short) areas_same)

    keep-reached : Reachable (with (gs ++ (f ∷ [])))
    unfolding keep_of CallFits
    keep-reached =
        let e : Accepted (keep_of (with gs) f.entry.time f.entry.mark) = rw keep_asked in
        let fits : (f.entry.time < 2 ^ 64) × (f.entry.mark < 2 ^ 32) = (omega (arith, next.is.held, o.passable.last_fits), omega (arith, mark_small f.entry.mark next.is.mark_is)) in
        rw keep-is at (Reachable.kept f.entry.time f.entry.mark r fits e)

  -- ---- all of them: the state itself

  all-reached : (gs hs : List File) → gs ++ hs ≡ files_of st → Reachable (with gs) → Reachable (with (files_of st))
  all-reached gs [] cut r =
      let e : gs ≡ files_of st = sym (append-nil gs) ∙ cut in
      rw e at r
  all-reached gs (f ∷ hs) cut r = all-reached (gs ++ (f ∷ [])) hs (append_assoc gs (f ∷ []) hs ∙ cut) (keep-reached gs f hs cut r)

  end_is : with (files_of st) ≡ st
  end_is =
      let k = st.numbers.files in
      let xs = m.catalogue in
      let none = replicate slots no_entry in
      let entries : map entry_of (files_of st) ≡ take k xs = entries_files_in R m.areas 0 (take k xs) in
      let long : 0 + length (map entry_of (files_of st)) ≡ k = omega (arith, length-map (files_of st) entry_of, length_files st facts) in
      let past : 0 + length none ≡ slots = omega (arith, length-replicate slots no_entry) in
      let behind : drop k (emptied R m) ≡ drop k (take slots xs) ++ drop slots xs =
      ap (λ (n : ℕ). drop k (none ++ drop n xs)) past
      ∙ drop-append-le k none (drop slots xs) (omega (arith, facts.limits.files_few))
      ∙ ap (λ (ys : List Entry). ys ++ drop slots xs) (drop_replicate k slots no_entry ∙ sym facts.rest_is) in
      let catalogue : put (emptied R m) 0 (map entry_of (files_of st)) ≡ xs =
      ap (λ (n : ℕ). map entry_of (files_of st) ++ drop n (emptied R m)) long
      ∙ rw (entries, behind, ← take-take k slots xs facts.limits.files_few, ← append_assoc (take k (take slots xs)) (drop k (take slots xs)) (drop slots xs), take-append-drop k (take slots xs)) (take-append-drop slots xs) in
      store_eq (numbers_eq refl refl refl refl refl refl (length_files st facts)) refl refl refl catalogue refl

  pub audited_reachable : Reachable st
  audited_reachable = rw end_is at (all-reached [] (files_of st) refl start-reached)

pub audit_exact : AuditExact
audit_exact st p l = ((λ a. audited_reachable st (record { audited = a; lendable = l; passable = p })), λ r. (reachable_in_order r).audited)
