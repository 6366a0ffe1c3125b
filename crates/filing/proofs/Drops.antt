-- The promises of drop and drop by mark, from the answers to the questions and what the code says on any memory: one law for
-- each return. Assumes nothing.
use Prim.Native.Nat.{ℕ, ◌-◌, ◌≤◌, ◌<◌}
use mathlib.Core.Path.{◌≡◌, sym, ap, ◌∙◌}
use mathlib.Core.List.{List}
use mathlib.Core.Bool.{Bool, true, false}
use native.Mathlib.Omega.{arith}
use lib.ListN.{length, take}
use lib.Seq.{length-take-le}
use lib.Dec.{ltb}
use borrow.Author.Tests.{lt-ltb, le-ltb}
use Rattle.model.specs.declared.Numbers.{Numbers}
use Rattle.model.specs.declared.Entry.{Entry}
use Rattle.model.specs.Answers.{Outcome, answers, refuses, first_no}
use Rattle.model.specs.Marks.{goes}
use Rattle.model.specs.Memory.{State, sound, fits}
use Rattle.model.specs.Starts.{Result, after}
use Rattle.model.specs.Files.{files_of, is_kept, staying, reduced, not_of, drop_of, is_marked, not_marked, drop_marked_of}
use Rattle.model.specs.Promises.{store_of}
use Rattle.model.proofs.FileLaws.{length_going, length_files_of}
use Rattle.catalogue.specs.declared.Going.{Going}
use Rattle.catalogue.specs.declared.Going.TheVariants.{Of, Marked}
use Rattle.catalogue.specs.declared.Staying.{Staying}
use Rattle.catalogue.specs.Candidates.{used_in}
use Rattle.catalogue.specs.Entries.{stays_when, staying_of, entries_staying}
use Rattle.catalogue.proofs.CandidateLaws.{used_all}
use Rattle.filing.specs.Filing.{LetGo, Drops}
use Rattle.filing.proofs.FileEntries.{fewer_kept, count_staying}
use Rattle.filing.proofs.Letting.{closed_over_none}

module _ (s : Numbers) (log index table : List ℕ) (x : Staying) (areas : List ℕ) where
  -- x is of this catalogue
  abbrev Of-catalogue : Going → List Entry → Type 0
  Of-catalogue going catalogue = x ≡ staying_of going (used_in s catalogue) (length catalogue)

  module _ {A : Type 0} (going : Going) (defined : State → Result A) where
    refused-drops : (o : Outcome A) → ((catalogue : List Entry) → Of-catalogue going catalogue
        → after o (store_of s log index table catalogue areas) ≡ defined (store_of s log index table catalogue areas))
        → Drops going s log index table x areas o s 0 areas defined
    refused-drops o is =
        record {
          few = omega arith;
          lent = omega arith;
          told = omega arith;
          is = λ catalogue same.
              ap (λ (es : List Entry). after o (store_of s log index table es areas)) (closed_over_none (stays_when going) catalogue) ∙ is catalogue same;
        }

    answered-drops : (o : Outcome A) {s' : Numbers} {areas' : List ℕ} → s.files ≤ 16 → s.files ≤ x.lent → LetGo s x areas s' areas'
        → ((catalogue : List Entry) → Of-catalogue going catalogue
        → after o (reduced (stays_when going) (store_of s log index table catalogue areas)) ≡ defined (store_of s log index table catalogue areas))
        → Drops going s log index table x areas o s' s.files areas' defined
    answered-drops o sixteen few gone is =
        record {
          few = sixteen;
          lent = few;
          told = omega arith;
          is = λ catalogue same.
              let long : x.lent ≡ length catalogue = rw same in
              ap (after o) (gone.is going log index table catalogue (rw (used_all s catalogue sixteen) at same) (omega arith)) ∙ is catalogue same;
        }

  -- ---- the questions

  -- question 1, of the entries lent
  sound-is : (b : Bool) → fits s log (length index) (length table) x.lent (length areas) ≡ b → (going : Going) (catalogue : List Entry)
      → Of-catalogue going catalogue → sound (store_of s log index table catalogue areas) ≡ b
  sound-is b q going catalogue same =
      let lent : length catalogue ≡ x.lent = rw same in
      ap (λ (n : ℕ). fits s log (length index) (length table) n (length areas)) lent ∙ q

  pub drop-header : (t : ℕ) → fits s log (length index) (length table) x.lent (length areas) ≡ false
      → Drops (Of t) s log index table x areas (refuses 1) s 0 areas (λ st. drop_of st t)
  unfolding drop_of first_no
  drop-header t fails =
      refused-drops (Of t) (λ st. drop_of st t) (refuses 1) (λ catalogue same. rw (sound-is false fails (Of t) catalogue same))

  pub marked-header : (k : ℕ) → fits s log (length index) (length table) x.lent (length areas) ≡ false
      → Drops (Marked k) s log index table x areas (refuses 1) s 0 areas (λ st. drop_marked_of st k)
  unfolding drop_marked_of first_no
  marked-header k fails =
      refused-drops (Marked k) (λ st. drop_marked_of st k) (refuses 1) (λ catalogue same. rw (sound-is false fails (Marked k) catalogue same))

  module _ (yes : fits s log (length index) (length table) x.lent (length areas) ≡ true) (sixteen : s.files ≤ 16) (few : s.files ≤ x.lent) where
    -- as many stay as x counts
    count_is : (going : Going) (catalogue : List Entry) → Of-catalogue going catalogue
        → x.count ≡ length (entries_staying (stays_when going) (take s.files catalogue))
    count_is going catalogue same = rw (same, used_all s catalogue sixteen)

    -- ---- drop

    -- a file of t is kept where fewer stay
    kept_is : (t : ℕ) (catalogue : List Entry) → Of-catalogue (Of t) catalogue
        → is_kept t (files_of (store_of s log index table catalogue areas)) ≡ ltb x.count s.files
    unfolding stays_when
    kept_is t catalogue same =
        let lent : x.lent ≡ length catalogue = rw same in
        let long : length (take s.files catalogue) ≡ s.files = length-take-le s.files catalogue (omega arith) in
        sym (rw (count_is (Of t) catalogue same) (ap (ltb (length (entries_staying (not_of t) (take s.files catalogue)))) (sym long) ∙ fewer_kept s.limit areas t 0 (take s.files catalogue)))

    pub drop-none : (t : ℕ) → s.files ≤ x.count → Drops (Of t) s log index table x areas (refuses 16) s 0 areas (λ st. drop_of st t)
    unfolding drop_of first_no
    drop-none t all =
        refused-drops (Of t) (λ st. drop_of st t) (refuses 16)
        (λ catalogue same. rw (sound-is true yes (Of t) catalogue same, kept_is t catalogue same, le-ltb _ _ all))

    pub drop_answered : (t : ℕ) {s' : Numbers} {areas' : List ℕ} → x.count < s.files → LetGo s x areas s' areas'
        → Drops (Of t) s log index table x areas (answers tt) s' s.files areas' (λ st. drop_of st t)
    unfolding drop_of first_no stays_when
    drop_answered t fewer gone =
        answered-drops (Of t) (λ st. drop_of st t) (answers tt) sixteen few gone
        (λ catalogue same. rw (sound-is true yes (Of t) catalogue same, kept_is t catalogue same, lt-ltb _ _ fewer))

    -- ---- drop by mark

    pub marked_wrong : (k : ℕ) → goes k ≡ false → Drops (Marked k) s log index table x areas (refuses 18) s 0 areas (λ st. drop_marked_of st k)
    unfolding drop_marked_of first_no
    marked_wrong k g =
        refused-drops (Marked k) (λ st. drop_marked_of st k) (refuses 18) (λ catalogue same. rw (sound-is true yes (Marked k) catalogue same, g))

    -- those that do not stay went
    went-is : (k : ℕ) (catalogue : List Entry) → Of-catalogue (Marked k) catalogue
        → length (staying (is_marked k) (files_of (store_of s log index table catalogue areas))) ≡ s.files - x.count
    unfolding stays_when
    went-is k catalogue same =
        let lent : x.lent ≡ length catalogue = rw same in
        let st = store_of s log index table catalogue areas in
        omega (arith, count_is (Marked k) catalogue same, count_staying s.limit areas (not_marked k) (take s.files catalogue), length_going (is_marked k) (files_of st), length_files_of st (omega arith))

    pub marked_answered : (k : ℕ) {s' : Numbers} {areas' : List ℕ} → goes k ≡ true → LetGo s x areas s' areas'
        → Drops (Marked k) s log index table x areas (answers (s.files - x.count)) s' s.files areas' (λ st. drop_marked_of st k)
    unfolding drop_marked_of first_no stays_when
    marked_answered k g gone =
        answered-drops (Marked k) (λ st. drop_marked_of st k) (answers (s.files - x.count)) sixteen few gone
        (λ catalogue same. rw (sound-is true yes (Marked k) catalogue same, g, went-is k catalogue same))
