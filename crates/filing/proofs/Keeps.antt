-- The promise of keep, from the answers to the questions and what the code says on any memory: one law for each return.
-- Assumes nothing.
use Rattle.std.specs.Prelude.{Ok, Err}
use Prim.Native.Nat.{ℕ, suc, ◌+◌, ◌≤◌, ◌<◌, min}
use mathlib.Core.Path.{◌≡◌, refl, sym, ap}
use mathlib.Core.List.{List}
use mathlib.Core.Bool.{Bool, true, false}
use native.Mathlib.Omega.{arith}
use lib.ListN.{length, take}
use lib.Dec.{eqb}
use borrow.Author.Tests.{le-leb, lt-leb, lt-ltb, le-ltb, eq-eqb, ne_eqb}
use Rattle.model.specs.declared.Numbers.{Numbers}
use Rattle.model.specs.declared.Entry.{Entry}
use Rattle.model.specs.declared.Refusal.{Refusal}
use Rattle.model.specs.Answers.{answers, refuses, Question, first_no}
use Rattle.model.specs.Marks.{is_mark}
use Rattle.model.specs.Memory.{State, no_entry, sound, capacity}
use Rattle.model.specs.Starts.{after}
use Rattle.model.specs.Queries.{answered_time}
use Rattle.model.specs.Files.{with_count, files_of, is_kept, file_of, keep_questions, keep_of}
use Rattle.model.specs.Promises.{store_of, is_refused, refused_number, IfAnswered, KeepPromise}
use Rattle.model.proofs.PromiseLaws.{not_refused}
use Rattle.pages.specs.declared.lent.Lent.{Lent}
use Rattle.pages.specs.Lent.{stretch_lent, store_lent}
use Rattle.catalogue.specs.declared.Candidates.{Candidates}
use Rattle.catalogue.specs.Candidates.{used_in, candidates_in}
use Rattle.catalogue.specs.Entries.{place_for, entry_put}
use Rattle.catalogue.proofs.CandidateLaws.{used_all}
use Rattle.filing.specs.declared.Kept.{Kept}
use Rattle.filing.specs.Filing.{KeepAsked, Keeps, KeptFile}
use Rattle.filing.proofs.FileEntries.{latest-kept}
use Rattle.filing.proofs.Keeping.{shifted_none, shifted-put}

-- ---- by the number of the first question answered no

module _ (st : State) (t k : ℕ) where
  keep_refused : (j : ℕ) → first_no (keep_questions st t k) ≡ suc j → KeepPromise st t k (refuses (suc j)) st
  unfolding keep_of refused_number IfAnswered
  keep_refused j q = record { asked = sym q; refused = λ r. refl; filed = tt; audited = λ ok. rw q }

  keep-answered : {st' : State} → first_no (keep_questions st t k) ≡ 0 → KeptFile st t k st' → KeepPromise st t k (answers tt) st'
  unfolding keep_of is_refused refused_number IfAnswered
  keep-answered q kept =
      record {
        asked = sym q;
        refused = λ r. not_refused r;
        filed = kept.some;
        audited = λ ok. rw q (ap (after (answers tt)) (kept.audited ok));
      }

module _ (l : Lent) (c : Candidates) (areas : List ℕ) (t k : ℕ) where
  abbrev s : Numbers
  s = l.numbers

  -- the questions, where the catalogue is this one
  abbrev questions : List Entry → List Question
  questions catalogue = keep_questions (store_lent l catalogue areas) t k

  -- whatever the catalogue is that the candidates are of, question 1 is answered so, and the first question answered no has this
  -- number
  abbrev Sound : Bool → Type 0
  Sound b = (catalogue : List Entry) → c ≡ candidates_in s t catalogue → sound (store_lent l catalogue areas) ≡ b

  abbrev Asks : ℕ → Type 0
  Asks n = (catalogue : List Entry) → c ≡ candidates_in s t catalogue → first_no (questions catalogue) ≡ n

  pub refused_keeps : (at : ℕ) {r : Kept} {why : Refusal} → r ≡ record { numbers = s; verdict = Err why; entry = no_entry; at = 0; end = 0 }
      → KeepAsked l c areas t k (Err why) → Keeps s l.log.now (stretch_lent l) l.current.now c at areas t k r areas
  refused_keeps at is told =
      rw is
      (record {
        low = omega arith;
        high = omega arith;
        promised = λ catalogue same place.
            let no = told catalogue same in
            rw (no.1, shifted_none catalogue no_entry) (keep_refused (store_lent l catalogue areas) t k no.0 no.2);
      })

  pub answered_keeps : (at rows : ℕ) {s' : Numbers} {areas' : List ℕ} → s' ≡ with_count s (s.files + 1) → at ≤ s.files → s.files + 1 ≤ c.lent → Asks 0
      → ((catalogue : List Entry) → c ≡ candidates_in s t catalogue → at ≡ place_for t (used_in s catalogue) → s.files < length catalogue
      → KeptFile (store_lent l catalogue areas) t k
      (store_of (with_count s (s.files + 1)) l.log.now (stretch_lent l) l.current.now (entry_put catalogue s.files at (file_of t rows k areas').entry) areas'))
      → Keeps s l.log.now (stretch_lent l) l.current.now c at areas t k
      (record { numbers = s'; verdict = Ok tt; entry = record { time = t; rows = rows; mark = k }; at = at; end = s.files + 1 }) areas'
  answered_keeps at rows numbers_are within lent asks kept =
      record {
        low = omega arith;
        high = lent;
        promised = λ catalogue same place.
            let long : c.lent ≡ length catalogue = rw same in
            rw (numbers_are, shifted-put catalogue s.files at (record { time = t; rows = rows; mark = k }) within)
            (keep-answered (store_lent l catalogue areas) t k (asks catalogue same) (kept catalogue same place (omega arith)));
      }

  -- ---- the questions

  pub keep_header : Sound false → Asks 1
  unfolding first_no
  keep_header unsound catalogue same = rw (unsound catalogue same)

  module _ (yes : Sound true) where
    pub keep_late : s.last < t → Asks 12
    unfolding first_no
    keep_late h catalogue same = rw (yes catalogue same, lt-leb _ _ h)

    module _ (h : t ≤ s.last) where
      pub keep_wrong_mark : is_mark k ≡ false → Asks 18
      unfolding first_no
      keep_wrong_mark m catalogue same = rw (yes catalogue same, le-leb _ _ h, m)

      module _ (m : is_mark k ≡ true) where
        pub keep_zero : t ≡ 0 → Asks 14
        unfolding first_no
        keep_zero z catalogue same = rw (yes catalogue same, le-leb _ _ h, m, eq-eqb _ _ z)

        module _ (some : t ≡ 0 → ⊥) (sixteen : s.files ≤ 16) where
          -- the candidate at or before t is of t where a file of t is kept
          kept_is : (catalogue : List Entry) → c ≡ candidates_in s t catalogue
              → is_kept t (files_of (store_lent l catalogue areas)) ≡ eqb c.early.time t
          unfolding answered_time
          kept_is catalogue same =
              let asked : min t s.last ≡ t = omega arith in
              rw (same, asked, used_all s catalogue sixteen) (sym (latest-kept s.limit areas t 0 (take s.files catalogue) some))

          pub keep_twice : c.early.time ≡ t → Asks 14
          unfolding first_no
          keep_twice e catalogue same = rw (yes catalogue same, le-leb _ _ h, m, ne_eqb _ _ some, kept_is catalogue same, eq-eqb _ _ e)

          module _ (other : c.early.time ≡ t → ⊥) where
            pub keep_full : capacity s.limit c.lent (length areas) ≤ s.files → Asks 15
            unfolding first_no
            keep_full full catalogue same =
                let lent : c.lent ≡ length catalogue = rw same in
                rw (yes catalogue same, le-leb _ _ h, m, ne_eqb _ _ some, kept_is catalogue same, ne_eqb _ _ other, ← lent, le-ltb _ _ full)

            pub keep_asks-none : s.files < capacity s.limit c.lent (length areas) → Asks 0
            unfolding first_no
            keep_asks-none room catalogue same =
                let lent : c.lent ≡ length catalogue = rw same in
                rw (yes catalogue same, le-leb _ _ h, m, ne_eqb _ _ some, kept_is catalogue same, ne_eqb _ _ other, ← lent, lt-ltb _ _ room)
