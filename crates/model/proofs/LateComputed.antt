-- Times after the last request (02, wish 2), computed on a store of two insertions, 5:8 at time 10 and 6:9 at 20: what each query
-- answers for 10, for 20 and for late times, tables and views also with the last time kept; and on memory that the audit denies,
-- with a record after the last time, which late times do not show. Assumes nothing.
use Prim.Native.Nat.{ℕ}
use mathlib.Core.Path.{◌≡◌, refl}
use mathlib.Core.List.{List, [], ◌∷◌, ◌++◌, map}
use mathlib.Core.Bool.{false}
use lib.ListN.{replicate}
use lib.IntN.{pos, negsuc}
use Rattle.codec.specs.LittleEndian.{number, bytes}
use Rattle.codec.specs.Parts.{same, zeros}
use Rattle.model.specs.declared.Numbers.{Numbers}
use Rattle.model.specs.declared.Position.{Position}
use Rattle.model.specs.declared.Side.{Side}
use Rattle.model.specs.declared.Side.TheVariants.{Earlier, Later}
use Rattle.model.specs.declared.Place.{Place}
use Rattle.model.specs.declared.Place.TheVariants.{Empty, Area, Current}
use Rattle.model.specs.Answers.{Outcome, answers, first_no, TableSaid}
use Rattle.model.specs.Settings.{order_in_range, page_size_in_range, row_limit_in_range, records_in_range}
use Rattle.model.specs.Records.{insertion, record_bytes, records_bytes, record_in, records, header_bytes}
use Rattle.model.specs.Rows.{lacks, has_row, count_of, put_in, without, row_bytes, rows_bytes, table_bytes}
use Rattle.model.specs.Timeslice.{named, table, up_to, timeslice}
use Rattle.model.specs.Pages.{page_times_from}
use Rattle.model.specs.Shape.{valuation_up_to, cofactor_up_to, valuation, cofactor, opens}
use Rattle.model.specs.Numbering.{opened, nodes, leaf_node}
use Rattle.model.specs.Tree.{keys_up_to}
use Rattle.model.specs.Marks.{goes, is_mark}
use Rattle.model.specs.Memory.{State, state, no_entry, capacity, is_header, numbers_in_range, log_long, index_long, table_long, fits_but_index, fits}
use Rattle.model.specs.Outset.{files_from, latest, earliest, choose_by}
use Rattle.model.specs.NetChange.{missing, placed, arranged, net_change, change_bytes, changes_bytes, net_change_bytes}
use Rattle.model.specs.Queries.{answered_time, position_of, Written, table_of, rows_part, Viewed, view_of, Netted, net_of}
use Rattle.model.specs.Files.{files_in, areas_bytes, is_kept, file_in, keep_of}
use Rattle.model.specs.Units.{inserted, deleted, units_at, difference, units_of, difference_of}
use Rattle.model.specs.Legal.{formed, last_from, is_update, in_time, allowed, legal_next, legal_after}
use Rattle.model.specs.Audit.{log_audited, table_audited, index_audited, files_audited, entries_zero, rest_audited, audit_of}
use Rattle.model.specs.Promises.{refused_by}
use Rattle.model.specs.Calls.{answer_of}
use Rattle.model.specs.LateTimes.{said_refused_by}

unfoldable pub computing : Unit {0}
unfolding number bytes same first_no order_in_range page_size_in_range row_limit_in_range records_in_range record_bytes records_bytes record_in records header_bytes lacks has_row count_of put_in without row_bytes rows_bytes table_bytes named table up_to timeslice page_times_from valuation_up_to cofactor_up_to valuation cofactor opens opened nodes leaf_node keys_up_to capacity is_header numbers_in_range log_long index_long table_long fits_but_index fits files_from latest earliest choose_by missing placed arranged net_change change_bytes changes_bytes net_change_bytes answered_time position_of table_of rows_part view_of net_of files_in areas_bytes is_kept file_in keep_of goes is_mark inserted deleted units_at difference units_of difference_of formed last_from is_update in_time allowed legal_next legal_after log_audited table_audited index_audited files_audited entries_zero rest_audited audit_of refused_by answer_of said_refused_by
computing = tt

-- ---- the store

abbrev numbers : ℕ → Numbers
numbers files = record { order = 2; page = 2; limit = 2; records = 2; last = 20; live = 2; files = files }

abbrev rows20 : List ℕ
rows20 = 5 ∷ 0 ∷ 0 ∷ 0 ∷ 8 ∷ 0 ∷ 0 ∷ 0 ∷ 6 ∷ 0 ∷ 0 ∷ 0 ∷ 9 ∷ 0 ∷ 0 ∷ 0 ∷ []

abbrev rows10 : List ℕ
rows10 = 5 ∷ 0 ∷ 0 ∷ 0 ∷ 8 ∷ 0 ∷ 0 ∷ 0 ∷ zeros 8

-- with room for one file
abbrev pub two : State
two =
    state (numbers 0)
    (record {
      log = header_bytes (numbers 0) ++ records_bytes (insertion 0 10 5 8 ∷ insertion 1 20 6 9 ∷ []);
      index = 10 ∷ [];
      table = rows20;
      catalogue = no_entry ∷ [];
      areas = replicate 16 7;
    })

-- with the last time kept
abbrev pub filed : State
filed =
    state (numbers 1)
    (record { log = two.memory.log; index = 10 ∷ []; table = rows20; catalogue = record { time = 20; rows = 2; mark = 0 } ∷ []; areas = rows20 })

-- ---- the queries, for 10, 20, 21 and 2 ^ 64 - 1

abbrev times : List ℕ
times = 10 ∷ 20 ∷ 21 ∷ 18446744073709551615 ∷ []

abbrev at : ℕ → Outcome Position
at requests = answers (record { page = record { 0 = 0 }; requests = requests })

positions : map (position_of two) times ≡ at 1 ∷ at 2 ∷ at 2 ∷ at 2 ∷ []
unfolding computing
positions = refl

abbrev told : ℕ → Side → ℕ → List ℕ → Written TableSaid
told k side n out = record { outcome = answers (record { rows = k; side = side; between = n }); output = out }

tables : map (λ (t : ℕ). table_of two t (replicate 16 3)) times ≡ told 1 Earlier 1 rows10 ∷ replicate 3 (told 2 Later 0 rows20)
unfolding computing
tables = refl

abbrev seen : Place → ℕ → Side → ℕ → List ℕ → Viewed
seen place k side n part = record { outcome = answers (record { place = place; rows = k; side = side; between = n }); rows = part }

views : map (view_of two) times ≡ seen Empty 0 Earlier 1 [] ∷ replicate 3 (seen Current 2 Later 0 rows20)
unfolding computing
views = refl

-- "A count file at the last time goes before the current table"
views_filed : map (view_of filed) times ≡ seen Empty 0 Earlier 1 [] ∷ replicate 3 (seen (Area 0) 2 Earlier 0 rows20)
unfolding computing
views_filed = refl

tables_filed : map (λ (t : ℕ). table_of filed t (replicate 16 3)) times ≡ told 1 Earlier 1 rows10 ∷ replicate 3 (told 2 Earlier 0 rows20)
unfolding computing
tables_filed = refl

units : map (units_of two) times ≡ answers 8 ∷ answers 17 ∷ answers 17 ∷ answers 17 ∷ []
unfolding computing
units = refl

-- the second time late, the first, both
differences : (difference_of two 10 21 ∷ difference_of two 21 10 ∷ difference_of two 22 21 ∷ []) ≡ answers (pos 9) ∷ answers (negsuc 8) ∷ answers (pos 0) ∷ []
unfolding computing
differences = refl

-- insert 6:9; delete 6:9; none
net_changes : map (λ (n : Netted). n.outcome) (net_of two 10 21 (replicate 48 3) (replicate 32 3) ∷ net_of two 21 10 (replicate 48 3) (replicate 32 3) ∷ net_of two 22 21 (replicate 48 3) (replicate 32 3) ∷ [])
    ≡ answers 1 ∷ answers 1 ∷ answers 0 ∷ []
unfolding computing
net_changes = refl

-- table a, then table b
workspaces : map (λ (n : Netted). n.workspace) (net_of two 10 21 (replicate 48 3) (replicate 32 3) ∷ net_of two 21 10 (replicate 48 3) (replicate 32 3) ∷ [])
    ≡ (rows10 ++ rows20) ∷ (rows20 ++ rows10) ∷ []
unfolding computing
workspaces = refl

-- ---- a record after the last time

-- the header says 12, and the second record is of time 20
abbrev strange : State
strange =
    let s : Numbers = record { order = 2; page = 2; limit = 2; records = 2; last = 12; live = 1; files = 0 } in
    state s
    (record {
      log = header_bytes s ++ records_bytes (insertion 0 10 5 8 ∷ insertion 1 20 6 9 ∷ []);
      index = 10 ∷ [];
      table = rows10;
      catalogue = [];
      areas = [];
    })

denied : audit_of strange ≡ false
unfolding computing
denied = refl

strange_positions : map (position_of strange) times ≡ replicate 4 (at 1)
unfolding computing
strange_positions = refl

strange_tables : map (λ (t : ℕ). table_of strange t (replicate 16 3)) (12 ∷ 20 ∷ 21 ∷ []) ≡ replicate 3 (told 1 Later 0 rows10)
unfolding computing
strange_tables = refl

strange_views : map (view_of strange) (12 ∷ 20 ∷ 21 ∷ []) ≡ replicate 3 (seen Current 1 Later 0 (5 ∷ 0 ∷ 0 ∷ 0 ∷ 8 ∷ 0 ∷ 0 ∷ 0 ∷ []))
unfolding computing
strange_views = refl

strange-units : map (units_of strange) times ≡ answers 8 ∷ answers 8 ∷ answers 8 ∷ answers 8 ∷ []
unfolding computing
strange-units = refl

strange_differences : (difference_of strange 10 20 ∷ difference_of strange 20 10 ∷ []) ≡ answers (pos 0) ∷ answers (pos 0) ∷ []
unfolding computing
strange_differences = refl

strange_net_changes : map (λ (n : Netted). n.outcome) (net_of strange 10 20 (replicate 48 3) (replicate 32 3) ∷ net_of strange 20 10 (replicate 48 3) (replicate 32 3) ∷ []) ≡ answers 0 ∷ answers 0 ∷ []
unfolding computing
strange_net_changes = refl
