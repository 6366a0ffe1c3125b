-- Records that may follow a log: what insert, delete and update have in common. Assumes nothing.
use Rattle.std.specs.Prelude.{ℕ, ◌+◌, ◌*◌, ◌^◌, ◌≤◌, ◌<◌, ◌≡◌, List, ◌++◌, true, length, get_or}
use Rattle.model.specs.Records.{Rec, no_record}
use Rattle.model.specs.Legal.{legal, last_time}
use Rattle.model.specs.Pages.{index_need}
use Rattle.model.specs.Memory.{State, log_of}
use Rattle.logs.specs.Widths.{RecordsFit}

-- the records `new` may follow at time t: together with those that stand they are legal and end at t, all are later than
-- the last request, they fit their fields, and log and index have room for them
pub record MayFollow (st : State) (t : ℕ) (new : List Rec) : Type 0 where
  pub legal_with : legal st.numbers.limit (log_of st ++ new) ≡ true
  pub ends_at : last_time (log_of st ++ new) ≡ t
  pub time_fits : t < 2 ^ 64
  pub after_last : st.numbers.last < t
  pub all_after : (i : ℕ) → i < length new → st.numbers.last < (get_or new i no_record).time
  pub new_fit : RecordsFit new
  pub records_few : st.numbers.records + length new ≤ 65536
  pub log_room : 24 + 24 * (st.numbers.records + length new) ≤ length st.memory.log
  pub room_in_index : index_need st.numbers.order st.numbers.page (st.numbers.records + length new) ≤ length st.memory.index
