-- Keep, drop and drop by mark of a state in order leave one in order, with a file more or with those that stay by a test. Assumes nothing.
use Prim.Native.Nat.{ℕ, zero, suc, ◌+◌, ◌-◌, ◌*◌, ◌≤◌, ◌<◌}
use mathlib.Core.Path.{◌≡◌, refl, ◌∙◌}
use mathlib.Core.List.{List, [], ◌∷◌, ◌++◌, append-nil, map}
use mathlib.Core.Bool.{Bool, true, false, not, ◌&&◌}
use native.Mathlib.Omega.{arith}
use native.Mathlib.Nat.{min-le_left, le_trans, mul_comm, mul-le-mul_right}
use lib.ListN.{length, replicate, length-append, length-map, length-replicate}
use lib.Dec.{leb, ltb, eqb}
use borrow.Author.Tests.{leb-true, ltb-true, eqb-false, not-true}
use Rattle.codec.proofs.Numbers.{are_bytes-put}
use Rattle.codec.proofs.PartLaws.{length-put}
use Rattle.model.specs.declared.Entry.{Entry}
use Rattle.model.specs.Answers.{question, first_no}
use Rattle.model.specs.Records.{header_bytes}
use Rattle.model.specs.Marks.{is_mark}
use Rattle.model.specs.Memory.{State, state, log_of, sound, capacity, capacity_of}
use Rattle.model.specs.Files.{File, files_of, no_file, areas_bytes, entry_of, with_files, with_count, is_kept, keep_questions, file_in, file_at, keep_of, staying, reduced, not_of, drop_questions, drop_of, not_marked, drop_marked_questions, drop_marked_of}
use Rattle.model.proofs.Compare.{and_left, and_right}
use Rattle.model.specs.Facts.{FileIs, FilesAre, AuditedFacts, InOrder}
use Rattle.model.proofs.AuditLaws.{audited_facts, audited_of_facts, capacity_entries, areas_within}
use Rattle.model.proofs.FileLaws.{length_files_of, length_whole, length-staying}
use Rattle.model.proofs.FilesBack.{files_back}
use Rattle.model.proofs.Leaving.{either_left}
use Rattle.claims.proofs.Regions.{SameLengths, asked, entries_put, entries_of_lendable}
use Rattle.claims.proofs.FileLists.{FilesFit, files_fit, files_fit_append, no_files_fit, entries_of_files, bytes_of_files, whole_of_fit}
use Rattle.claims.proofs.FilesKept.{length-file_in, files_with, files_staying, rest_back}

pub capacity_few : (R entries bytes : ℕ) → capacity R entries bytes ≤ 16
unfolding capacity
capacity_few R entries bytes = min-le_left 16 _

-- a state holds as many files as its number says
pub length_files : (st : State) → AuditedFacts st → length (files_of st) ≡ st.numbers.files
length_files st f =
    let m = st.memory in
    length_files_of st (le_trans f.limits.files_few (capacity_entries st.numbers.limit (length m.catalogue) (length m.areas)))

-- ---- other files, and no files behind them, in place of those that were there

module _ (st : State) (o : InOrder st) (gs : List File) (j : ℕ)
    (are : FilesAre st.numbers.limit st.numbers.last (log_of st) 0 gs)
    (low : st.numbers.files ≤ length gs + j) (high : length gs + j ≤ capacity_of st.numbers.limit st.memory) where
  abbrev R : ℕ
  R = st.numbers.limit

  abbrev all : List File
  all = gs ++ replicate j (no_file st.numbers.limit)

  abbrev other : State
  other = state (with_count st.numbers (length gs)) (with_files all st.memory)

  facts : AuditedFacts st
  facts = audited_facts st o.audited

  gs-fit : FilesFit st.numbers.limit gs
  gs-fit = files_fit R st.numbers.last (log_of st) facts.log_legal o.passable.last_fits facts.limits.limit_high 0 gs are

  all_fit : FilesFit st.numbers.limit all
  all_fit = files_fit_append R gs (replicate j (no_file R)) gs-fit (no_files_fit R j)

  all-long : length all ≡ length gs + j
  all-long = length-append gs (replicate j (no_file R)) ∙ rw (length-replicate j (no_file R))

  entries_long : length other.memory.catalogue ≡ length st.memory.catalogue
  entries_long =
      length-put st.memory.catalogue 0 (map entry_of all)
      (omega (arith, length-map all entry_of, all-long, capacity_entries R (length st.memory.catalogue) (length st.memory.areas)))

  areas_long : length other.memory.areas ≡ length st.memory.areas
  areas_long =
      let slots = capacity_of R st.memory in
      let fit : length all ≤ slots = omega (arith, all-long) in
      let within : 8 * R * slots ≤ length st.memory.areas = areas_within R (length st.memory.catalogue) (length st.memory.areas) facts.limits.limit_low in
      let more : length all * (8 * R) ≤ slots * (8 * R) = mul-le-mul_right (8 * R) fit in
      length-put st.memory.areas 0 (areas_bytes all)
      (omega (arith, length_whole R all (whole_of_fit R all all_fit), mul_comm (8 * R) (length all), mul_comm (8 * R) slots))

  pub files_lengths : SameLengths st.memory other.memory
  files_lengths = record { log_same = refl; index_same = refl; table_same = refl; entries_same = entries_long; areas_same = areas_long }

  slots_same : capacity_of st.numbers.limit other.memory ≡ capacity_of st.numbers.limit st.memory
  slots_same = rw (entries_long, areas_long)

  pub files_now : files_of other ≡ gs
  files_now = files_back R gs (replicate j (no_file R)) st.memory.catalogue st.memory.areas (whole_of_fit R gs gs-fit)

  other-facts : AuditedFacts other
  unfolding header_bytes
  other-facts =
      let l = facts.limits in
      record {
        limits = record {
          order_low = l.order_low;
          order_high = l.order_high;
          page_low = l.page_low;
          page_high = l.page_high;
          limit_low = l.limit_low;
          limit_high = l.limit_high;
          records_few = l.records_few;
          long_log = l.long_log;
          long_index = l.long_index;
          long_table = l.long_table;
          files_few = rw slots_same (omega arith);
        };
        header_is = facts.header_is;
        log_legal = facts.log_legal;
        last_is = facts.last_is;
        live_is = facts.live_is;
        table_is = facts.table_is;
        index_is = facts.index_is;
        files_are = rw files_now are;
        rest_is = rw slots_same (rest_back R st.memory.catalogue (capacity_of R st.memory) st.numbers.files gs j low high facts.rest_is);
      }

  pub files_in_order : InOrder other
  files_in_order =
      let l = o.lendable in
      let p = o.passable in
      let entries = entries_put st.memory.catalogue 0 (map entry_of all) (entries_of_lendable st.memory l) (entries_of_files R all all_fit) in
      record {
        audited = audited_of_facts other other-facts;
        lendable = record {
          log_bytes = l.log_bytes;
          words_of_index = l.words_of_index;
          bytes_of_table = l.bytes_of_table;
          entry_times = λ i. (entries.each i).time_fits;
          entry_rows = λ i. (entries.each i).rows_fit;
          entry_marks = λ i. (entries.each i).mark_fits;
          bytes_of_areas = are_bytes-put st.memory.areas 0 (areas_bytes all) l.bytes_of_areas (bytes_of_files R all all_fit);
        };
        passable = record {
          order_fits = p.order_fits;
          page_fits = p.page_fits;
          limit_fits = p.limit_fits;
          records_fit = p.records_fit;
          last_fits = p.last_fits;
          live_fits = p.live_fits;
          files_fit = omega (arith, capacity_few R (length st.memory.catalogue) (length st.memory.areas));
        };
      }

-- ---- keep

-- the file of time t and a mark is one of the log's
pub file-at_is : (st : State) (t k before : ℕ) → before < t → t ≤ st.numbers.last → is_mark k ≡ true
    → FileIs st.numbers.limit st.numbers.last (log_of st) before (file_at st t k)
file-at_is st t k before h l m = record { later = h; held = l; rows_are = refl; area_is = refl; mark_is = m }

-- what keep's questions say
pub record KeepAsked (st : State) (t k : ℕ) : Type 0 where
  pub held : t ≤ st.numbers.last
  pub is_a_mark : is_mark k ≡ true
  pub positive : 0 < t
  pub not_kept : is_kept t (files_of st) ≡ false
  pub room : st.numbers.files < capacity_of st.numbers.limit st.memory

pub keep_asked : (st : State) (t k : ℕ) → first_no (keep_questions st t k) ≡ 0 → KeepAsked st t k
keep_asked st t k q =
    let held = leb t st.numbers.last in
    let mark = is_mark k in
    let some = not (eqb t 0) in
    let free = not (is_kept t (files_of st)) in
    let room = ltb st.numbers.files (capacity_of st.numbers.limit st.memory) in
    let q1 = asked 0 (sound st) (question 12 held ∷ question 18 mark ∷ question 14 (some && free) ∷ question 15 room ∷ []) q in
    let q12 = asked 11 held (question 18 mark ∷ question 14 (some && free) ∷ question 15 room ∷ []) q1.1 in
    let q18 = asked 17 mark (question 14 (some && free) ∷ question 15 room ∷ []) q12.1 in
    let q14 = asked 13 (some && free) (question 15 room ∷ []) q18.1 in
    let q15 = asked 14 room [] q14.1 in
    record {
      held = leb-true _ _ q12.0;
      is_a_mark = q18.0;
      positive = above t (eqb-false t 0 (not-true (eqb t 0) (and_left some free q14.0)));
      not_kept = not-true (is_kept t (files_of st)) (and_right some free q14.0);
      room = ltb-true _ _ q15.0;
    }
  where
    above : (u : ℕ) → (u ≡ 0 → ⊥) → 0 < u
    above zero h = absurd (h refl)
    above (suc u) h = omega arith

-- an accepted keep of it: the state, and the files that it holds
module _ (st : State) (o : InOrder st) (t k : ℕ) (h : KeepAsked st t k) where
  abbrev files : List File
  files = file_in (file_at st t k) (files_of st)

  abbrev kept : State
  kept = state (with_count st.numbers (st.numbers.files + 1)) (with_files files st.memory)

  one_more : length files ≡ st.numbers.files + 1
  one_more = length-file_in (file_at st t k) (files_of st) ∙ omega (arith, length_files st (audited_facts st o.audited))

  files_are : FilesAre st.numbers.limit st.numbers.last (log_of st) 0 files
  files_are =
      files_with st.numbers.limit st.numbers.last (log_of st) (file_at st t k) 0 (files_of st) (file-at_is st t k 0 h.positive h.held h.is_a_mark) h.not_kept
      (audited_facts st o.audited).files_are

  pub kept_in_order : InOrder kept
  kept_in_order =
      rw (append-nil files, one_more) at (files_in_order st o files 0 files_are (omega (arith, one_more)) (omega (arith, one_more, h.room)))

  pub kept_files : files_of kept ≡ files
  kept_files = rw (append-nil files, one_more) at (files_now st o files 0 files_are (omega (arith, one_more)) (omega (arith, one_more, h.room)))

  pub kept-lengths : SameLengths st.memory kept.memory
  kept-lengths = rw (append-nil files) at (files_lengths st o files 0 files_are (omega (arith, one_more)) (omega (arith, one_more, h.room)))

pub keep_audited : (st : State) (t k : ℕ) → InOrder st → InOrder (keep_of st t k).state
unfolding keep_of
keep_audited st t k o = either_left (λ x. InOrder x) tt (first_no (keep_questions st t k)) st _ o (λ q. kept_in_order st o t k (keep_asked st t k q))

-- ---- drop and drop by mark

-- whatever the test
module _ (stays : Entry → Bool) (st : State) (o : InOrder st) where
  abbrev rest : List File
  rest = staying stays (files_of st)

  facts-now : AuditedFacts st
  facts-now = audited_facts st o.audited

  no_more : length rest ≤ st.numbers.files
  no_more = omega (arith, length-staying stays (files_of st), length_files st facts-now)

  rest-are : FilesAre st.numbers.limit st.numbers.last (log_of st) 0 rest
  rest-are = files_staying st.numbers.limit st.numbers.last (log_of st) stays 0 0 (files_of st) (omega arith) facts-now.files_are

  pub reduced_in_order : InOrder (reduced stays st)
  reduced_in_order =
      files_in_order st o rest (st.numbers.files - length rest) rest-are (omega (arith, no_more)) (omega (arith, no_more, facts-now.limits.files_few))

  pub reduced-lengths : SameLengths st.memory (reduced stays st).memory
  reduced-lengths =
      files_lengths st o rest (st.numbers.files - length rest) rest-are (omega (arith, no_more)) (omega (arith, no_more, facts-now.limits.files_few))

pub drop_audited : (st : State) (t : ℕ) → InOrder st → InOrder (drop_of st t).state
unfolding drop_of
drop_audited st t o = either_left (λ x. InOrder x) tt (first_no (drop_questions st t)) st _ o (λ q. reduced_in_order (not_of t) st o)

pub drop-marked_audited : (st : State) (k : ℕ) → InOrder st → InOrder (drop_marked_of st k).state
unfolding drop_marked_of
drop-marked_audited st k o = either_left (λ x. InOrder x) _ (first_no (drop_marked_questions st k)) st _ o (λ q. reduced_in_order (not_marked k) st o)
