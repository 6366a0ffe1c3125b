-- Keep, drop and drop by mark write no entry and no area past the files there are, on any memory. Assumes nothing.
use Prim.Native.Nat.{ℕ, zero, suc, ◌+◌, ◌*◌, ◌≤◌, ◌<◌}
use mathlib.Core.Path.{◌≡◌, refl, sym, ap, ◌∙◌}
use mathlib.Core.List.{List, [], ◌∷◌, map}
use mathlib.Core.Bool.{Bool, true, false, cond}
use native.Mathlib.Omega.{arith}
use native.Mathlib.Nat.{le_trans, mul-le-mul_left}
use lib.ListN.{length, take, length-map}
use lib.Seq.{length-take-le}
use lib.Dec.{ltb}
use Rattle.model.specs.declared.Numbers.{Numbers}
use Rattle.model.specs.declared.Entry.{Entry}
use Rattle.model.specs.Answers.{Outcome, answers, refuses, refuses_at, Question, question, first_no, unless_no}
use Rattle.model.specs.Memory.{State, state, sound, capacity_of}
use Rattle.model.specs.Starts.{Result, after}
use Rattle.model.specs.Changes.{unchanged}
use Rattle.model.specs.Files.{File, files_of, areas_bytes, entry_of, with_files, with_file, file_in, file_of, staying, closed_up, reduced, keep_questions, not_of, drop_of, not_marked, drop_marked_of}
use Rattle.model.specs.Promises.{is_refused, refused_number, IfAnswered, KeepPromise}
use Rattle.model.specs.FileFrames.{FilesFrame, FilesFramed}
use Rattle.model.proofs.AuditLaws.{capacity_entries, areas_within, limits_of_sound}
use Rattle.model.proofs.FileLaws.{length_files_of, Whole, whole_files_in, whole-staying, length_whole, length-staying, length_closed_up, whole_closed_up, front_beyond}
use Rattle.model.proofs.PromiseLaws.{beyond_same}
use Rattle.claims.proofs.Regions.{asked}
use Rattle.claims.proofs.FilesKept.{length-file_in}
use Rattle.claims.proofs.Kept.{keep_asked}

same_framed : (files : ℕ) (st : State) → FilesFrame files st st
same_framed files st =
    record { log_same = refl; index_same = refl; table_same = refl; entries_framed = beyond_same files _; areas_framed = beyond_same (8 * st.numbers.limit * files) _ }

-- whole files in front of catalogue and areas
front_framed : (st : State) (s' : Numbers) (k : ℕ) (gs : List File) → length gs ≡ k → Whole st.numbers.limit gs → k ≤ length st.memory.catalogue
    → 8 * st.numbers.limit * k ≤ length st.memory.areas → FilesFrame k st (state s' (with_files gs st.memory))
front_framed st s' k gs n whole few long =
    record {
      log_same = refl;
      index_same = refl;
      table_same = refl;
      entries_framed = front_beyond k st.memory.catalogue (map entry_of gs) few (length-map gs entry_of ∙ n);
      areas_framed = front_beyond (8 * st.numbers.limit * k) st.memory.areas (areas_bytes gs) long (length_whole st.numbers.limit gs whole ∙ rw n);
    }

file_in_whole : (R : ℕ) (f : File) → length f.area ≡ 8 * R → (fs : List File) → Whole R fs → Whole R (file_in f fs)
unfolding Whole file_in
file_in_whole R f size [] h = (size, tt)
file_in_whole R f size (x ∷ xs) h = by (ltb x.entry.time f.entry.time) (file_in_whole R f size xs h.1)
  where
    by : (b : Bool) → Whole R (file_in f xs) → Whole R (cond b (x ∷ file_in f xs) (f ∷ (x ∷ xs)))
    by true ih = (h.0, ih)
    by false ih = (size, h)

module _ (st : State) where
  abbrev s : Numbers
  s = st.numbers

  abbrev R : ℕ
  R = st.numbers.limit

  abbrev cap : ℕ
  cap = capacity_of st.numbers.limit st.memory

  lent : cap ≤ length st.memory.catalogue
  lent = capacity_entries R (length st.memory.catalogue) (length st.memory.areas)

  areas-lent : 1 ≤ st.numbers.limit → (k : ℕ) → k ≤ cap → 8 * st.numbers.limit * k ≤ length st.memory.areas
  areas-lent some k h =
      le_trans (mul-le-mul_left (8 * R) h) (areas_within R (length st.memory.catalogue) (length st.memory.areas) some)

  module _ (ok : sound st ≡ true) where
    few : st.numbers.files ≤ cap
    few = (limits_of_sound st ok).0.files_few

    low : 1 ≤ st.numbers.limit
    low = (limits_of_sound st ok).0.limit_low

    in-catalogue : st.numbers.files ≤ length st.memory.catalogue
    in-catalogue = le_trans few lent

    count : length (files_of st) ≡ st.numbers.files
    count = length_files_of st in-catalogue

    whole : Whole st.numbers.limit (files_of st)
    whole =
        let es = take st.numbers.files st.memory.catalogue in
        let n : 0 + length es ≡ st.numbers.files = omega (arith, length-take-le st.numbers.files st.memory.catalogue in-catalogue) in
        whole_files_in R st.memory.areas 0 es (rw n (areas-lent low st.numbers.files few))

    reduced-framed : (stays : Entry → Bool) → FilesFrame st.numbers.files st (reduced stays st)
    reduced-framed stays =
        let left = staying stays (files_of st) in
        let fewer : length left ≤ st.numbers.files = omega (arith, length-staying stays (files_of st), count) in
        front_framed st _ st.numbers.files (closed_up R st.numbers.files left) (length_closed_up R st.numbers.files left fewer)
        (whole_closed_up R st.numbers.files left (whole-staying stays R (files_of st) whole)) in-catalogue (areas-lent low st.numbers.files few)

    filed-framed : (f : File) → length f.area ≡ 8 * st.numbers.limit → st.numbers.files < cap → FilesFrame (st.numbers.files + 1) st (with_file f st)
    filed-framed f size room =
        front_framed st _ (st.numbers.files + 1) (file_in f (files_of st)) (length-file_in f (files_of st) ∙ omega (arith, count)) (file_in_whole R f size (files_of st) whole) (omega (arith, lent)) (areas-lent low (st.numbers.files + 1) (omega arith))

  -- a keep, by what its promise says
  keep-framed : (t k : ℕ) (o : Outcome Unit) (st' : State) → KeepPromise st t k o st' → FilesFrame (st.numbers.files + 1) st st'
  unfolding refused_number is_refused IfAnswered
  keep-framed t k (answers x) st' p =
      let none : first_no (keep_questions st t k) ≡ 0 = sym p.asked in
      let f = p.filed in
      rw f.is (filed-framed (asked 0 (sound st) _ none).0 (file_of t f.rows k f.area) f.area_whole (keep_asked st t k none).room)
  keep-framed t k (refuses n) st' p = rw (p.refused refl) (same_framed _ st)
  keep-framed t k (refuses_at n r) st' p = rw (p.refused refl) (same_framed _ st)

  -- a call that is done or leaves the store as it was
  defined-framed : {A : Type 0} (questions : List Question) (x : A) (stays : Entry → Bool) (o : Outcome A) (st' : State)
      → after o st' ≡ unless_no (first_no (question 1 (sound st) ∷ questions)) (after (answers x) (reduced stays st)) (unchanged st) → FilesFrame st.numbers.files st st'
  defined-framed questions x stays o st' e = rw (ap (λ (y : Result _). y.state) e) (by (first_no (question 1 (sound st) ∷ questions)) refl)
    where
      by : (n : ℕ) → first_no (question 1 (sound st) ∷ questions) ≡ n → FilesFrame st.numbers.files st (unless_no n (after (answers x) (reduced stays st)) (unchanged st)).state
      by zero q = reduced-framed (asked 0 (sound st) questions q).0 stays
      by (suc n) q = same_framed _ st

pub files_framed : FilesFramed
unfolding drop_of drop_marked_of
files_framed =
    record {
      keep = keep-framed;
      drop = λ st t o st' e. defined-framed st (question 16 _ ∷ []) tt (not_of t) o st' e;
      marked_drop = λ st k o st' e. defined-framed st (question 18 _ ∷ []) _ (not_marked k) o st' e;
    }
