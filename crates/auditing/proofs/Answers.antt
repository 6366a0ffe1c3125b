-- The audit's answer: what each no denies, and what all yes together grant. Assumes nothing.
use Prim.Native.Nat.{ℕ, zero, suc, ◌+◌, ◌-◌, ◌*◌, ◌≤◌, ◌<◌}
use mathlib.Core.Path.{◌≡◌, refl, sym, ap, ◌∙◌}
use mathlib.Core.List.{List, [], ◌∷◌}
use mathlib.Core.Bool.{Bool, true, false, false≢true}
use native.Mathlib.Omega.{arith}
use native.Mathlib.Nat.{le_of_suc-le-suc, not-suc-le-zero}
use lib.ListN.{length, get_or, take, drop, replicate, length-drop, get_or-replicate}
use lib.Seq.{get_or-take, get_or-drop, length-take-le, take_all}
use borrow.Author.Tests.{eq-eqb}
use Rattle.codec.specs.Parts.{same, zeros}
use Rattle.codec.proofs.Sameness.{same_of_equal}
use Rattle.model.specs.declared.Entry.{Entry}
use Rattle.model.specs.declared.Numbers.{Numbers}
use Rattle.model.specs.Records.{records}
use Rattle.model.specs.Memory.{State, no_entry, fits, capacity}
use Rattle.model.specs.Pages.{pages_of, page_times}
use Rattle.model.specs.Tree.{nodes_of, with_tree}
use Rattle.model.specs.Promises.{store_of}
use Rattle.model.specs.Audit.{audit_of, log_audited, table_audited, index_audited, entries_zero, rest_audited, Audited}
use Rattle.model.specs.Facts.{AuditedFacts}
use Rattle.model.proofs.Compare.{and_both}
use Rattle.model.proofs.AuditLaws.{capacity_entries, audited_facts, audited_sound, test_of_files}
use Rattle.catalogue.specs.declared.Catalogue.{Catalogue}
use Rattle.catalogue.specs.ByValue.{by_value, Loaded}
use Rattle.catalogue.proofs.EntryLaws.{loaded_by_value}
use Rattle.limits.specs.Fit.{Fit}
use Rattle.tree_audit.specs.Times.{Decides}
use Rattle.tree.specs.Places.{place_of, with_tree_at, stretch_of, Seen}
use Rattle.tree.proofs.Stretches.{seen_laid, stretch_audited}
use Rattle.model.proofs.PageLaws.{length_page_times}
use Rattle.model.proofs.RecordLaws.{length-records}
use Rattle.tree_audit.specs.Stands.{Auditable}
use Rattle.auditing.specs.Walk.{LogStands, FilesFrom, ZeroEntries, TableReady, FilesReady}

denied : (st : State) → (Audited st → ⊥) → false ≡ audit_of st
denied st other = by (audit_of st) refl
  where
    by : (r : Bool) → audit_of st ≡ r → false ≡ r
    by true e = absurd (other e)
    by false e = refl

-- ---- what the parts of the audit ask for

-- the bytes behind the header
pub behind-header : (log : List ℕ) → take (length log - 24) (drop 24 log) ≡ drop 24 log
behind-header log = take_all (length log - 24) (drop 24 log) (omega (arith, length-drop 24 log))

-- the index, of which question 1 asked only how many words it is seen as
module _ {s : Numbers} (log index : List ℕ) {words table entries areas e : ℕ} {starts : List ℕ} (fit : Fit s (length log) words table entries areas)
    (seen : Seen s.order e starts words (length index)) where
  pub tree_auditable : Auditable s.order s.page s.records (length (drop 24 log)) e starts (length index)
  tree_auditable = record {
    order_low = fit.in_range.order_low;
    order_high = fit.in_range.order_high;
    page_low = fit.in_range.page_low;
    page_high = fit.in_range.page_high;
    records_few = fit.in_range.records_few;
    long_log = omega (arith, fit.long_log, length-drop 24 log);
    laid = seen_laid seen (nodes_of s.order (pages_of s.page s.records)) fit.long_index;
  }

  -- the tree stands at the nodes' places just where it stands in the stretch
  pub tree_of_stretch :
      let keys = page_times s.page (records (drop 24 log) s.records) in
      let stretch = stretch_of s.order e starts words index in
      same (with_tree_at (place_of s.order e starts) s.order keys index) index ≡ same (with_tree s.order keys stretch) stretch
  tree_of_stretch =
      let rs = records (drop 24 log) s.records in
      let pages : length (page_times s.page rs) ≡ pages_of s.page s.records =
      length_page_times s.page (omega (arith, fit.in_range.page_low)) rs ∙ ap (pages_of s.page) (length-records (drop 24 log) s.records) in
      stretch_audited index fit.in_range.order_low seen (page_times s.page rs) (rw pages fit.long_index)

module _ {s : Numbers} (log : List ℕ) {index table entries areas : ℕ} (fit : Fit s (length log) index table entries areas) where
  long_log : 24 * s.records ≤ length (drop 24 log)
  long_log = omega (arith, fit.long_log, length-drop 24 log)

  pub table_ready : TableReady s (length (drop 24 log)) table
  table_ready = record { limit_high = fit.in_range.limit_high; long_log = long_log; long_table = fit.long_table }

  pub files_ready : FilesReady s (length (drop 24 log)) areas
  files_ready = record { limit_high = fit.in_range.limit_high; long_log = long_log; files_few = fit.files_sixteen; areas_long = fit.areas_long }

pub take-zeros : (k n : ℕ) → k ≤ n → take k (zeros n) ≡ zeros k
take-zeros zero n h = refl
take-zeros (suc k) zero h = absurd (not-suc-le-zero h)
take-zeros (suc k) (suc n) h = ap (λ (xs : List ℕ). 0 ∷ xs) (take-zeros k n (le_of_suc-le-suc h))

-- ---- zero entries

entries_all_zero : (es : List Entry) → ((i : ℕ) → i < length es → get_or es i no_entry ≡ no_entry) → entries_zero es ≡ true
unfolding entries_zero
entries_all_zero [] h = refl
entries_all_zero (e ∷ es) h =
    let z : e ≡ no_entry = h 0 (omega arith) in
    rw z (entries_all_zero es (λ i l. h (suc i) (omega arith)))

-- ---- the answer for a catalogue by value

module _ (s : Numbers) (log index current : List ℕ) (c : Catalogue) (areas : List ℕ) (catalogue : List Entry) (is : c ≡ by_value catalogue) where
  abbrev st : State
  st = store_of s log index current catalogue areas

  abbrev room : ℕ
  room = capacity s.limit c.lent (length areas)

  lent : c.lent ≡ length catalogue
  lent = ap (λ (d : Catalogue). d.lent) is

  pub denied-sound : fits s log (length index) (length current) c.lent (length areas) ≡ false → false ≡ audit_of st
  denied-sound e = denied st (λ ok. false≢true (sym (rw lent at e) ∙ audited_sound st ok))

  pub denied_tree : same (with_tree s.order (page_times s.page (records (drop 24 log) s.records)) index) index ≡ false → false ≡ audit_of st
  denied_tree e = denied st (λ ok. false≢true (sym e ∙ same_of_equal _ _ (audited_facts st ok).index_is))

  denied-log : (LogStands s (drop 24 log) current × FilesFrom s.limit s.records s.last s.files (drop 24 log) areas catalogue 0 0 → ⊥) → false ≡ audit_of st
  denied-log other = denied st (λ ok.
      let f = audited_facts st ok in
      other (record { log_legal = f.log_legal; last_is = f.last_is; live_is = f.live_is; table_is = f.table_is }, f.files_are))

  module _ (stop : ℕ) (at_room : stop ≡ room) (few : stop ≤ 16) where
    sixteen : room ≤ 16
    sixteen = rw at_room at few

    room-lent : room ≤ length catalogue
    room-lent = omega (arith, lent, capacity_entries s.limit c.lent (length areas))

    holds : Loaded catalogue room c
    holds = loaded_by_value catalogue is room sixteen room-lent

    rest-get : (i : ℕ) → s.files + i < room → get_or (drop s.files (take room catalogue)) i no_entry ≡ get_or c.entries (s.files + i) no_entry
    rest-get i l = get_or-drop s.files (take room catalogue) i no_entry ∙ get_or-take room catalogue (s.files + i) no_entry l ∙ sym (holds.entries_are (s.files + i) l)

    pub denied_rest : (ZeroEntries s.files stop c.entries → ⊥) → false ≡ audit_of st
    denied_rest other = denied st (λ ok. other (rw at_room (blank (audited_facts st ok))))
      where
        blank : AuditedFacts st → ZeroEntries s.files room c.entries
        blank f i low high =
            let e : s.files + (i - s.files) ≡ i = omega arith in
            let g : drop s.files (take room catalogue) ≡ replicate (room - s.files) no_entry = rw lent f.rest_is in
            let h : get_or (drop s.files (take room catalogue)) (i - s.files) no_entry ≡ get_or c.entries (s.files + (i - s.files)) no_entry = rest-get (i - s.files) (omega arith) in
            ap (λ (j : ℕ). get_or c.entries j no_entry) (sym e) ∙ sym h ∙ ap (λ (es : List Entry). get_or es (i - s.files) no_entry) g
            ∙ get_or-replicate (room - s.files) (i - s.files) no_entry no_entry (omega arith)

    rest-zero : ZeroEntries s.files room c.entries → entries_zero (drop s.files (take room catalogue)) ≡ true
    rest-zero blank =
        let front : length (take room catalogue) ≡ room = length-take-le room catalogue room-lent in
        let long : length (drop s.files (take room catalogue)) ≡ room - s.files = length-drop s.files (take room catalogue) ∙ rw front in
        entries_all_zero (drop s.files (take room catalogue)) (λ i l. rest-get i (omega (arith, long, l)) ∙ blank (s.files + i) (omega arith) (omega (arith, long, l)))

    granted : fits s log (length index) (length current) c.lent (length areas) ≡ true
        → ZeroEntries s.files room c.entries
        → same (with_tree s.order (page_times s.page (records (drop 24 log) s.records)) index) index ≡ true
        → LogStands s (drop 24 log) current × FilesFrom s.limit s.records s.last s.files (drop 24 log) areas catalogue 0 0
        → true ≡ audit_of st
    unfolding audit_of log_audited table_audited index_audited rest_audited
    granted sound blank tree logs =
        let l = logs.0 in
        sym
        (and_both
        (and_both
        (and_both
        (and_both (and_both (rw lent at sound) (and_both l.log_legal (eq-eqb _ _ l.last_is)))
        (and_both (eq-eqb _ _ l.live_is) (same_of_equal _ _ l.table_is)))
        tree)
        (test_of_files st 0 _ logs.1))
        (rw lent at (rest-zero blank)))

    -- the walk's answer is the audit's, once the rest stands
    pub answered : (r : Bool) → fits s log (length index) (length current) c.lent (length areas) ≡ true
        → ZeroEntries s.files stop c.entries
        → same (with_tree s.order (page_times s.page (records (drop 24 log) s.records)) index) index ≡ true
        → Decides r (LogStands s (drop 24 log) current × FilesFrom s.limit s.records s.last s.files (drop 24 log) areas catalogue 0 0)
        → r ≡ audit_of st
    unfolding Decides
    answered true sound blank tree stands = granted sound (rw at_room at blank) tree stands
    answered false sound blank tree stands = denied-log stands

  pub files_loaded : s.files ≤ 16 → s.files ≤ c.lent → Loaded catalogue s.files c
  files_loaded few some = loaded_by_value catalogue is s.files few (omega (arith, lent))
