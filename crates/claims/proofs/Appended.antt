-- Records that may follow, appended to a state in order, leave a state in order. Assumes nothing.
use Prim.Native.Nat.{ℕ, ◌+◌, ◌*◌, ◌^◌, ◌≤◌, ◌<◌}
use mathlib.Core.Path.{◌≡◌, refl, sym, ap, ◌∙◌}
use mathlib.Core.List.{List, [], ◌∷◌, ◌++◌}
use native.Mathlib.Omega.{arith}
use lib.ListN.{length, get_or, length-append}
use Rattle.codec.specs.Parts.{put}
use Rattle.codec.proofs.Numbers.{are_bytes-put}
use Rattle.codec.proofs.PartLaws.{length-put}
use Rattle.model.specs.Records.{Rec, no_record, records_bytes, header_bytes}
use Rattle.model.specs.Rows.{table_bytes}
use Rattle.model.specs.Timeslice.{timeslice}
use Rattle.model.specs.Pages.{pages_of, page_times}
use Rattle.model.specs.Tree.{index_words}
use Rattle.model.specs.Memory.{State, log_of}
use Rattle.model.specs.Changes.{appended_numbers, appended}
use Rattle.model.specs.Files.{File}
use Rattle.model.proofs.AppendLaws.{timeslice_earlier}
use Rattle.model.proofs.PageLaws.{length_page_times}
use Rattle.model.proofs.TimeLaws.{timeslice_rows}
use Rattle.tree.proofs.Written.{length-with}
use Rattle.logs.proofs.RecordBytes.{length-records-bytes, are_bytes-records}
use Rattle.logs.proofs.Appends.{all_fit_append, log-append}
use Rattle.logs.proofs.HeaderLaws.{length-header-bytes, are_bytes-header, take-header}
use Rattle.rows.proofs.TableBytes.{are_bytes-table}
use Rattle.model.specs.Facts.{FilesAre, AuditedFacts, InOrder}
use Rattle.claims.specs.Following.{MayFollow}
use Rattle.model.proofs.AuditLaws.{audited_facts, audited_of_facts}
use Rattle.claims.proofs.FactLaws.{length-log, log-fits}
use Rattle.claims.proofs.IndexWords.{below_with_tree, keys_below}
use Rattle.claims.proofs.Regions.{SameLengths, table-front, table-length, tree_again}

-- count files hold the tables of their times, whatever later records follow
pub files_longer : (R last t : ℕ) (rs new : List Rec) (before : ℕ) (fs : List File) → last ≤ t → ((i : ℕ) → i < length new → last < (get_or new i no_record).time)
    → FilesAre R last rs before fs → FilesAre R t (rs ++ new) before fs
unfolding FilesAre
files_longer R last t rs new before [] h late f = tt
files_longer R last t rs new before (x ∷ xs) h late f =
    let u = x.entry.time in
    let same : timeslice u (rs ++ new) ≡ timeslice u rs = timeslice_earlier u rs new (λ i g. omega (arith, late i g, f.0.held)) in (
      record {
        later = f.0.later;
        held = omega (arith, f.0.held);
        rows_are = f.0.rows_are ∙ ap length (sym same);
        area_is = f.0.area_is ∙ ap (table_bytes R) (sym same);
        mark_is = f.0.mark_is;
      },
      files_longer R last t rs new u xs h late f.1,
    )

module _ (st : State) (t : ℕ) (new : List Rec) (o : InOrder st) (g : MayFollow st t new) where
  abbrev all : List Rec
  all = log_of st ++ new

  abbrev limit : ℕ
  limit = st.numbers.limit

  abbrev order : ℕ
  order = st.numbers.order

  abbrev page : ℕ
  page = st.numbers.page

  facts : AuditedFacts st
  facts = audited_facts st o.audited

  -- the log holds the records that stood and the new ones
  pub log-appended : log_of (appended st t new) ≡ log_of st ++ new
  unfolding appended
  log-appended =
      log-append st.memory.log st.numbers.records new (appended_numbers st t new) g.new_fit (omega (arith, g.log_room))

  log_length : length (appended st t new).memory.log ≡ length st.memory.log
  unfolding appended
  log_length =
      let n = st.numbers.records in
      let xs = st.memory.log in
      let h = header_bytes (appended_numbers st t new) in
      let once : length (put xs (24 + 24 * n) (records_bytes new)) ≡ length xs = length-put xs (24 + 24 * n) (records_bytes new) (omega (arith, length-records-bytes new, g.log_room)) in
      length-put (put xs (24 + 24 * n) (records_bytes new)) 0 h (omega (arith, length-header-bytes (appended_numbers st t new), g.log_room)) ∙ once

  few-rows : length (timeslice t all) ≤ limit
  few-rows = timeslice_rows limit all g.legal_with t

  key_count : length (page_times page all) ≡ pages_of page (st.numbers.records + length new)
  key_count =
      length_page_times page (omega (arith, facts.limits.page_low)) all ∙ ap (pages_of page) (length-append (log_of st) new ∙ ap (λ (n : ℕ). n + length new) (length-log st))

  key_room : index_words order (length (page_times page all)) ≤ length st.memory.index
  key_room = rw key_count g.room_in_index

  pub appended-lengths : SameLengths st.memory (appended st t new).memory
  unfolding appended
  appended-lengths =
      record {
        log_same = log_length;
        index_same = length-with order facts.limits.order_low (page_times page all) st.memory.index key_room;
        table_same = table-length limit (timeslice t all) st.memory.table few-rows facts.limits.long_table;
        entries_same = refl;
        areas_same = refl;
      }

  appended-facts : AuditedFacts (appended st t new)
  unfolding appended
  appended-facts =
      let l = facts.limits in
      let m = st.memory in
      let is = log-appended in
      let same = appended-lengths in
      record {
        limits = record {
          order_low = l.order_low;
          order_high = l.order_high;
          page_low = l.page_low;
          page_high = l.page_high;
          limit_low = l.limit_low;
          limit_high = l.limit_high;
          records_few = g.records_few;
          long_log = rw same.log_same g.log_room;
          long_index = rw same.index_same g.room_in_index;
          long_table = rw same.table_same l.long_table;
          files_few = l.files_few;
        };
        header_is = take-header (appended_numbers st t new) (put m.log (24 + 24 * st.numbers.records) (records_bytes new));
        log_legal = rw is g.legal_with;
        last_is = rw is (sym g.ends_at);
        live_is = rw is;
        table_is = rw is (table-front limit (timeslice t all) m.table few-rows);
        index_is = rw is (tree_again order (page_times page all) m.index l.order_low key_room);
        files_are = rw is (files_longer limit st.numbers.last t (log_of st) new 0 _ (omega (arith, g.after_last)) g.all_after facts.files_are);
        rest_is = facts.rest_is;
      }

  pub appended_in_order : InOrder (appended st t new)
  unfolding appended
  appended_in_order =
      let l = o.lendable in
      let m = st.memory in
      let s' = appended_numbers st t new in
      let n = st.numbers.records in
      let p = o.passable in
      record {
        audited = audited_of_facts (appended st t new) appended-facts;
        lendable = record {
          log_bytes = are_bytes-put (put m.log (24 + 24 * n) (records_bytes new)) 0 (header_bytes s')
              (are_bytes-put m.log (24 + 24 * n) (records_bytes new) l.log_bytes (are_bytes-records new)) (are_bytes-header s');
          words_of_index = below_with_tree (2 ^ 64) (omega arith) order (page_times page all) m.index
              (keys_below page 0 all (all_fit_append (log_of st) new (log-fits st l) g.new_fit)) l.words_of_index;
          bytes_of_table = are_bytes-put m.table 0 (table_bytes limit (timeslice t all)) l.bytes_of_table (are_bytes-table limit (timeslice t all));
          entry_times = l.entry_times;
          entry_rows = l.entry_rows;
          entry_marks = l.entry_marks;
          bytes_of_areas = l.bytes_of_areas;
        };
        passable = record {
          order_fits = p.order_fits;
          page_fits = p.page_fits;
          limit_fits = p.limit_fits;
          records_fit = omega (arith, g.records_few);
          last_fits = g.time_fits;
          live_fits = omega (arith, few-rows, facts.limits.limit_high);
          files_fit = p.files_fit;
        };
      }
