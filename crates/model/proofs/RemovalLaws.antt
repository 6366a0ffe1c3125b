-- Files removed by a test (`reduced`, specs/Files), in every memory of which question 1 is answered yes: what is left is read back, a
-- removal after another is one by both tests, one that lets all stay changes nothing, and question 1 is still answered yes.
-- Assumes nothing.
use Prim.Native.Nat.{ℕ, ◌+◌, ◌-◌, ◌*◌, ◌≤◌}
use mathlib.Core.Path.{◌≡◌, refl, ap, ◌∙◌}
use mathlib.Core.List.{List, [], ◌∷◌, ◌++◌, append_assoc, append-nil, map}
use mathlib.Core.Bool.{Bool, true, false, cond, ◌&&◌}
use native.Mathlib.Omega.{arith}
use native.Mathlib.Nat.{le_trans, mul_comm, mul-le-mul_right}
use lib.ListN.{length, take, replicate, length-map, replicate-append-replicate}
use lib.Seq.{length-take-le}
use lib.Dec.{leb}
use borrow.Author.Tests.{leb-true, le-leb}
use Rattle.codec.specs.Parts.{put}
use Rattle.codec.proofs.PartLaws.{length-put, put-part}
use Rattle.model.specs.declared.Numbers.{Numbers}
use Rattle.model.specs.declared.Entry.{Entry}
use Rattle.model.specs.Records.{header_bytes}
use Rattle.model.specs.Memory.{Memory, State, state, sound, fits_but_index, fits, numbers_in_range, log_long, index_long, table_long, is_header, capacity, capacity_of}
use Rattle.model.specs.Files.{File, files_of, no_file, areas_bytes, entry_of, with_files, with_count, staying, closed_up, reduced}
use Rattle.model.proofs.Compare.{and_left, and_right, and_both}
use Rattle.model.proofs.AuditLaws.{capacity_entries, areas_within, limits_of_sound}
use Rattle.model.proofs.FileLaws.{length_files_of, entries_files_in, areas_files_in, Whole, whole_files_in, length_whole, whole-staying, length-staying, length_closed_up, whole_closed_up}
use Rattle.model.proofs.FilesBack.{files_back, files_over}

-- ---- two tests

abbrev pub both : (p q : Entry → Bool) → Entry → Bool
both p q e = p e && q e

staying-both : (p q : Entry → Bool) (fs : List File) → staying q (staying p fs) ≡ staying (both p q) fs
unfolding staying
staying-both p q [] = refl
staying-both p q (f ∷ fs) = by (staying-both p q fs) (p f.entry)
  where
    by : staying q (staying p fs) ≡ staying (both p q) fs → (a : Bool)
        → staying q (cond a (f ∷ staying p fs) (staying p fs)) ≡ cond (a && q f.entry) (f ∷ staying (both p q) fs) (staying (both p q) fs)
    by ih true = rw ih
    by ih false = ih

-- zeros up to a former count, then up to the one before it
closed_again : (R n k : ℕ) (fs : List File) → length fs ≤ k → k ≤ n → closed_up R k fs ++ replicate (n - k) (no_file R) ≡ closed_up R n fs
closed_again R n k fs h l =
    let sum : k - length fs + (n - k) ≡ n - length fs = omega arith in
    append_assoc fs (replicate (k - length fs) (no_file R)) (replicate (n - k) (no_file R))
    ∙ ap (λ (gs : List File). fs ++ gs) (replicate-append-replicate {A = File} (k - length fs) (n - k) (no_file R) ∙ ap (λ (j : ℕ). replicate j (no_file R)) sum)

-- ---- question 1

-- it asks of the files only that they are no more than the capacity
fits_fewer : (s : Numbers) (log : List ℕ) (index table entries areas k : ℕ) → k ≤ s.files → fits s log index table entries areas ≡ true
    → fits (with_count s k) log index table entries areas ≡ true
unfolding fits fits_but_index is_header header_bytes numbers_in_range
fits_fewer s log index table entries areas k l h =
    let others : Bool = numbers_in_range s && log_long s.records (length log) && is_header s log && table_long s.limit table && leb s.live s.limit in
    let room = leb s.files (capacity s.limit entries areas) in
    let long = index_long s.order s.page s.records index in
    let but = and_left (others && room) long h in
    let most : s.files ≤ capacity s.limit entries areas = leb-true _ _ (and_right others room but) in
    and_both (and_both (and_left others room but) (le-leb k (capacity s.limit entries areas) (omega arith))) (and_right (others && room) long h)

-- ---- a removal

module _ (st : State) (h : sound st ≡ true) where
  abbrev R : ℕ
  R = st.numbers.limit

  abbrev n : ℕ
  n = st.numbers.files

  abbrev es : List Entry
  es = take st.numbers.files st.memory.catalogue

  few : st.numbers.files ≤ length st.memory.catalogue
  few = le_trans (limits_of_sound st h).0.files_few (capacity_entries R (length st.memory.catalogue) (length st.memory.areas))

  long : 8 * st.numbers.limit * st.numbers.files ≤ length st.memory.areas
  long =
      let slots = capacity_of R st.memory in
      let l = (limits_of_sound st h).0 in
      let within = areas_within R (length st.memory.catalogue) (length st.memory.areas) l.limit_low in
      let more : n * (8 * R) ≤ slots * (8 * R) = mul-le-mul_right (8 * R) l.files_few in
      omega (arith, mul_comm (8 * R) n, mul_comm (8 * R) slots)

  entries_long : length es ≡ st.numbers.files
  entries_long = length-take-le n st.memory.catalogue few

  all_whole : Whole st.numbers.limit (files_of st)
  all_whole = let k : 0 + length es ≡ n = omega (arith, entries_long) in whole_files_in R st.memory.areas 0 es (rw k long)

  module _ (p : Entry → Bool) where
    abbrev left : List File
    left = staying p (files_of st)

    abbrev x : State
    x = reduced p st

    left_few : length left ≤ st.numbers.files
    left_few = omega (arith, length-staying p (files_of st), length_files_of st few)

    left-whole : Whole st.numbers.limit left
    left-whole = whole-staying p R (files_of st) all_whole

    pub left_files : files_of (reduced p st) ≡ staying p (files_of st)
    left_files = files_back R left (replicate (n - length left) (no_file R)) st.memory.catalogue st.memory.areas left-whole

    pub reduced-twice : (q : Entry → Bool) → reduced q (reduced p st) ≡ reduced (both p q) st
    reduced-twice q =
        let rest = staying (both p q) (files_of st) in
        let tests : staying q left ≡ rest = staying-both p q (files_of st) in
        let same : staying q (files_of x) ≡ rest = ap (staying q) left_files ∙ tests in
        let short : length rest ≤ length left = rw (← tests) (length-staying q left) in
        let whole : Whole R rest = whole-staying (both p q) R (files_of st) all_whole in
        let memory : with_files (closed_up R (length left) rest) x.memory ≡ with_files (closed_up R n rest) st.memory =
        files_over R left (closed_up R (length left) rest) (replicate (n - length left) (no_file R)) st.memory
        (length_closed_up R (length left) rest short) left-whole (whole_closed_up R (length left) rest whole)
        ∙ ap (λ (gs : List File). with_files gs st.memory) (closed_again R n (length left) rest short left_few) in
        ap (λ (gs : List File). state (with_count st.numbers (length gs)) (with_files (closed_up R (length left) gs) x.memory)) same
        ∙ ap (λ (m : Memory). state (with_count st.numbers (length rest)) m) memory

    pub reduced-none : staying p (files_of st) ≡ files_of st → reduced p st ≡ st
    reduced-none all =
        let count : length left ≡ n = ap length all ∙ length_files_of st few in
        let no_more : n - length left ≡ 0 = omega arith in
        let closed : closed_up R n left ≡ files_of st = ap (λ (j : ℕ). left ++ replicate j (no_file R)) no_more ∙ append-nil left ∙ all in
        let start : 8 * R * 0 ≡ 0 = omega arith in
        let entries : put st.memory.catalogue 0 (map entry_of (files_of st)) ≡ st.memory.catalogue =
        rw (entries_files_in R st.memory.areas 0 es) (put-part st.memory.catalogue 0 n (omega (arith, few))) in
        let bytes : put st.memory.areas 0 (areas_bytes (files_of st)) ≡ st.memory.areas =
        rw (areas_files_in R st.memory.areas 0 es, start, entries_long) (put-part st.memory.areas 0 (8 * R * n) (omega (arith, long))) in
        ap (λ (gs : List File). state (with_count st.numbers (length left)) (with_files gs st.memory)) closed
        ∙ ap (λ (k : ℕ). state (with_count st.numbers k) (with_files (files_of st) st.memory)) count ∙ rw (entries, bytes)

    pub reduced-sound : sound (reduced p st) ≡ true
    reduced-sound =
        let s = st.numbers in
        let m = st.memory in
        let gs = closed_up R n left in
        let count : length gs ≡ n = length_closed_up R n left left_few in
        let entries : length x.memory.catalogue ≡ length m.catalogue =
        length-put m.catalogue 0 (map entry_of gs) (omega (arith, length-map gs entry_of, few)) in
        let bytes : length x.memory.areas ≡ length m.areas =
        length-put m.areas 0 (areas_bytes gs) (rw (length_whole R gs (whole_closed_up R n left left-whole), count) (omega (arith, long))) in
        rw (entries, bytes) (fits_fewer s m.log (length m.index) (length m.table) (length m.catalogue) (length m.areas) (length left) left_few h)
