-- "each byte not named there is unchanged", of keep, drop and drop by mark on any memory: what their promises say of the files
-- leaves all else as it was. Assumes nothing.
use Rattle.std.specs.Prelude.{ℕ, ◌+◌, ◌*◌, ◌≡◌}
use Rattle.model.specs.Answers.{Outcome}
use Rattle.model.specs.Memory.{State}
use Rattle.model.specs.Starts.{after}
use Rattle.model.specs.Files.{drop_of, drop_marked_of}
use Rattle.model.specs.Promises.{Beyond, KeepPromise}

-- no more than the first `files` entries and areas was written
pub record FilesFrame (files : ℕ) (st st' : State) : Type 0 where
  pub log_same : st'.memory.log ≡ st.memory.log
  pub index_same : st'.memory.index ≡ st.memory.index
  pub table_same : st'.memory.table ≡ st.memory.table
  pub entries_framed : Beyond files st.memory.catalogue st'.memory.catalogue
  pub areas_framed : Beyond (8 * st.numbers.limit * files) st.memory.areas st'.memory.areas

pub record FilesFramed : Type 0 where
  pub keep : (st : State) (t k : ℕ) (o : Outcome Unit) (st' : State) → KeepPromise st t k o st' → FilesFrame (st.numbers.files + 1) st st'
  pub drop : (st : State) (t : ℕ) (o : Outcome Unit) (st' : State) → after o st' ≡ drop_of st t → FilesFrame st.numbers.files st st'
  pub marked_drop : (st : State) (k : ℕ) (o : Outcome ℕ) (st' : State) → after o st' ≡ drop_marked_of st k → FilesFrame st.numbers.files st st'
