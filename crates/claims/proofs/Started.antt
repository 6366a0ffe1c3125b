-- An accepted fresh store or opening leaves a state in order, with no count file. Assumes nothing.
use Prim.Native.Nat.{ℕ, zero, suc, ◌-◌, ◌*◌, ◌^◌, ◌≤◌, ◌<◌}
use mathlib.Core.Path.{◌≡◌, refl, ap, ◌∙◌}
use mathlib.Core.List.{[], ◌∷◌}
use mathlib.Core.Bool.{Bool, ◌&&◌}
use native.Mathlib.Omega.{arith}
use native.Mathlib.Nat.{zero-mul}
use lib.ListN.{length}
use lib.Dec.{leb}
use borrow.Author.Tests.{leb-true}
use Rattle.codec.specs.Parts.{zeros}
use Rattle.codec.proofs.Numbers.{are_bytes-put, are_bytes-zeros}
use Rattle.codec.proofs.PartLaws.{length-put}
use Rattle.model.specs.Answers.{Outcome, answers, refuses, question, first_no}
use Rattle.model.specs.Settings.{order_in_range, page_size_in_range, row_limit_in_range, SettingsFit}
use Rattle.model.specs.Records.{records, header_bytes}
use Rattle.model.specs.Timeslice.{table, up_to, timeslice}
use Rattle.model.specs.Legal.{legal_after, last_from}
use Rattle.model.specs.Numbering.{nodes, node_word}
use Rattle.model.specs.Pages.{page_times_from}
use Rattle.model.specs.Tree.{index_words}
use Rattle.model.specs.Memory.{Memory, state, Lendable, table_long}
use Rattle.model.specs.Starts.{fresh_questions, fresh_numbers, fresh_memory, fresh_of}
use Rattle.model.specs.Files.{files_in}
use Rattle.model.specs.Calls.{Start, StartFits, Accepted}
use Rattle.model.proofs.Compare.{and_left, and_right}
use Rattle.model.proofs.SettingsLaws.{settings_fit}
use Rattle.model.proofs.PageCounts.{pages_zero}
use Rattle.tree.proofs.Leaves.{leaves_none}
use Rattle.tree.proofs.Written.{packed_with}
use Rattle.tree.proofs.Fillings.{packed_none}
use Rattle.logs.proofs.HeaderLaws.{length-header-bytes, are_bytes-header, take-header}
use Rattle.rows.proofs.TableBytes.{table-bytes_empty}
use Rattle.model.specs.Facts.{FilesAre, AuditedFacts, InOrder}
use Rattle.model.proofs.AuditLaws.{audited_of_facts}
use Rattle.claims.proofs.Regions.{SameLengths, asked, table-front, table-length, length-emptied, emptied_rest, emptied-fits}

-- no key takes no word
no_words : (d : ℕ) → 2 ≤ d → index_words d 0 ≡ 0
unfolding nodes
no_words d two = ap (λ (n : ℕ). nodes d n * (d - 1)) (leaves_none d two) ∙ zero-mul (d - 1)

-- ---- fresh store

module _ (d N R : ℕ) (m : Memory) where
  pub fresh-state : Accepted (fresh_of d N R m) → (first_no (fresh_questions d N R m) ≡ 0) × ((fresh_of d N R m).state ≡ state (fresh_numbers d N R) (fresh_memory d N R m))
  unfolding fresh_of
  fresh-state e = by (first_no (fresh_questions d N R m)) refl
    where
      by : (k : ℕ) → first_no (fresh_questions d N R m) ≡ k → (first_no (fresh_questions d N R m) ≡ 0) × ((fresh_of d N R m).state ≡ state (fresh_numbers d N R) (fresh_memory d N R m))
      by zero q = (q, rw q)
      by (suc k) q =
          let no : ◌≡◌ {A = Outcome Unit} (refuses (suc k)) (answers tt) = rw q at e in
          let z : ◌≡◌ {A = ℕ} 0 1 = cc in
          absurd (omega arith)

  module _ (q : first_no (fresh_questions d N R m) ≡ 0) where
    abbrev space : Bool
    space = leb 24 (length m.log) && table_long R (length m.table)

    fresh-settings : SettingsFit d N R × ((24 ≤ length m.log) × (8 * R ≤ length m.table))
    unfolding table_long
    fresh-settings =
        let a = asked 1 (order_in_range d) (question 3 (page_size_in_range N) ∷ question 4 (row_limit_in_range R) ∷ question 5 space ∷ []) q in
        let b = asked 2 (page_size_in_range N) (question 4 (row_limit_in_range R) ∷ question 5 space ∷ []) a.1 in
        let c = asked 3 (row_limit_in_range R) (question 5 space ∷ []) b.1 in
        let e = asked 4 space [] c.1 in
        let log = leb 24 (length m.log) in
        let table = leb (8 * R) (length m.table) in
        (settings_fit d N R a.0 b.0 c.0, (leb-true _ _ (and_left log table e.0), leb-true _ _ (and_right log table e.0)))

    pub fresh-lengths : SameLengths m (fresh_memory d N R m)
    unfolding fresh_memory
    fresh-lengths =
        let room = fresh-settings.1 in
        record {
          log_same = length-put m.log 0 (header_bytes (fresh_numbers d N R)) (omega (arith, room.0, length-header-bytes (fresh_numbers d N R)));
          index_same = refl;
          table_same = rw (← table-bytes_empty R) (table-length R [] m.table (omega arith) room.1);
          entries_same = length-emptied R m;
          areas_same = refl;
        }

    fresh-facts : AuditedFacts (state (fresh_numbers d N R) (fresh_memory d N R m))
    unfolding fresh_memory records legal_after last_from timeslice table up_to page_times_from files_in FilesAre
    fresh-facts =
        let f = fresh-settings in
        let s = f.0 in
        let two = s.order_low in
        let same = fresh-lengths in
        let none = table-bytes_empty R in
        record {
          limits = record {
            order_low = s.order_low;
            order_high = s.order_high;
            page_low = s.page_low;
            page_high = s.page_high;
            limit_low = s.limit_low;
            limit_high = s.limit_high;
            records_few = omega arith;
            long_log = rw same.log_same f.1.0;
            long_index = rw (pages_zero N (omega (arith, s.page_low)), no_words d two) (omega arith);
            long_table = rw same.table_same f.1.1;
            files_few = omega arith;
          };
          header_is = take-header (fresh_numbers d N R) m.log;
          log_legal = refl;
          last_is = refl;
          live_is = refl;
          table_is = rw (← none) (table-front R [] m.table (omega arith));
          index_is = packed_with d two [] m.index (rw (no_words d two) (omega arith)) (packed_none (node_word d) d m.index two);
          files_are = tt;
          rest_is = emptied_rest R m (fresh_memory d N R m) refl refl;
        }

    fresh-in-order : d < 2 ^ 16 → N < 2 ^ 16 → R < 2 ^ 32 → Lendable m → InOrder (state (fresh_numbers d N R) (fresh_memory d N R m))
    unfolding fresh_memory
    fresh-in-order df nf rf l =
        let st = state (fresh_numbers d N R) (fresh_memory d N R m) in
        record {
          audited = audited_of_facts st fresh-facts;
          lendable = record {
            log_bytes = are_bytes-put m.log 0 (header_bytes (fresh_numbers d N R)) l.log_bytes (are_bytes-header (fresh_numbers d N R));
            words_of_index = l.words_of_index;
            bytes_of_table = are_bytes-put m.table 0 (zeros (8 * R)) l.bytes_of_table (are_bytes-zeros (8 * R));
            entry_times = λ i. ((emptied-fits R m l).each i).time_fits;
            entry_rows = λ i. ((emptied-fits R m l).each i).rows_fit;
            entry_marks = λ i. ((emptied-fits R m l).each i).mark_fits;
            bytes_of_areas = l.bytes_of_areas;
          };
          passable = record { order_fits = df; page_fits = nf; limit_fits = rf; records_fit = omega arith; last_fits = omega arith; live_fits = omega arith; files_fit = omega arith };
        }

  pub fresh_audited : StartFits (Start.fresh d N R m) → Accepted (fresh_of d N R m) → InOrder (fresh_of d N R m).state
  unfolding StartFits
  fresh_audited f e =
      let a = fresh-state e in
      rw a.1 (fresh-in-order a.0 f.0 f.1.0 f.1.1.0 f.1.1.1)
