-- What computed cases look through: the `unfoldable` definitions of codec and model that have values. A case
-- that says `unfolding computing` is computed to the end. Assumes nothing.
use Rattle.codec.specs.LittleEndian.{number, bytes}
use Rattle.codec.specs.Parts.{same}
use Rattle.model.specs.Answers.{refusal, asks, first_no}
use Rattle.model.specs.Settings.{order_in_range, page_size_in_range, row_limit_in_range, records_in_range, settings_of}
use Rattle.model.specs.Records.{record_bytes, records_bytes, record_in, records, header_bytes}
use Rattle.model.specs.Rows.{same_rows, lacks, has_row, count_of, put_in, without, row_bytes, rows_bytes, table_bytes}
use Rattle.model.specs.Timeslice.{named, table, up_to, timeslice}
use Rattle.model.specs.Legal.{formed, last_from, is_update, in_time, allowed, legal_next, legal_after, legal_count}
use Rattle.model.specs.Pages.{page_times_from}
use Rattle.model.specs.Marks.{goes, is_mark}
use Rattle.model.specs.Memory.{capacity, is_header, numbers_in_range, log_long, index_long, table_long, fits_but_index, fits}
use Rattle.model.specs.Outset.{files_from, latest, earliest, choose_by}
use Rattle.model.specs.Between.{records_between}
use Rattle.model.specs.NetChange.{legal_on, with_change, leads, missing, placed, arranged, net_change, change_bytes, changes_bytes, net_change_bytes}
use Rattle.model.specs.Starts.{fresh_memory, fresh_of, well_written, opened_memory, opened_numbers, cleared_memory, open_of}
use Rattle.model.specs.Changes.{appended, insert_of, delete_of, update_of}
use Rattle.model.specs.Queries.{answered_time, position_of, table_of, rows_part, view_of, net_of}
use Rattle.model.specs.Files.{files_in, areas_bytes, is_kept, file_in, keep_of, staying, drop_of, drop_marked_of}
use Rattle.model.specs.Audit.{log_audited, table_audited, index_audited, files_audited, entries_zero, rest_audited, audit_of}
use Rattle.model.specs.Units.{inserted, deleted, units_at, difference, sum_of, sum_in, units_of, difference_of}
use Rattle.model.specs.Promises.{is_refused, refused_by, refused_number, refused_among, by_one_of}
use Rattle.model.specs.Calls.{begun, step, answer_of, run, StartFits, CallFits}
use Rattle.model.specs.Demands.{marks_at, other_marks, held_next, held_after, some}
use Rattle.model.specs.LateTimes.{said_refused_by}
use Rattle.model.specs.Shape.{valuation_up_to, cofactor_up_to, valuation, cofactor, opens, last_opened, host, leaf_words, takers, inner_words}
use Rattle.model.specs.Numbering.{opened, nodes, leaf_node}
use Rattle.model.specs.Tree.{allotted, tree_of, with_nodes, with_tree, without_nodes, keys_up_to}

unfoldable pub computing : Unit {0}
unfolding number bytes same refusal asks first_no order_in_range page_size_in_range row_limit_in_range records_in_range settings_of record_bytes records_bytes record_in records header_bytes same_rows lacks has_row count_of put_in without row_bytes rows_bytes table_bytes named table up_to timeslice formed last_from is_update in_time allowed legal_next legal_after legal_count page_times_from goes is_mark capacity is_header numbers_in_range log_long index_long table_long fits_but_index fits files_from latest earliest choose_by records_between legal_on with_change leads missing placed arranged net_change change_bytes changes_bytes net_change_bytes fresh_memory fresh_of well_written opened_memory opened_numbers cleared_memory open_of appended insert_of delete_of update_of answered_time position_of table_of rows_part view_of net_of files_in areas_bytes is_kept file_in keep_of staying drop_of drop_marked_of log_audited table_audited index_audited files_audited entries_zero rest_audited audit_of inserted deleted units_at difference sum_of sum_in units_of difference_of is_refused refused_by refused_number refused_among by_one_of begun step answer_of run StartFits CallFits marks_at other_marks held_next held_after some said_refused_by valuation_up_to cofactor_up_to valuation cofactor opens last_opened host leaf_words takers inner_words opened nodes leaf_node allotted tree_of with_nodes with_tree without_nodes keys_up_to
computing = tt
