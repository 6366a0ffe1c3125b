-- The mission's demands 2 and 3, the audit's exactness, what positions (02, wish 5) and units (wish 1) tell, as statements
-- over lists of calls, and the same of calls that are made by code (`Chains`). Which of them is proved, and where, is listed
-- in docs/PROMISES.md. Demand 1 is the contracts of the calls. Assumes nothing.
use Rattle.std.specs.Prelude.{ℕ, ◌+◌, ◌*◌, ◌≤◌, ◌<◌, ◌≡◌, ◌↔◌, Bool, true, false, not, cond, ◌&&◌, length, take, eqb, ℤ}
use mathlib.Core.List.{List, [], ◌∷◌, Memᴰ}
use Rattle.model.specs.declared.Side.{Side}
use Rattle.model.specs.declared.Side.TheVariants.{Earlier, Later}
use Rattle.model.specs.declared.Position.{Position}
use Rattle.model.specs.Answers.{Outcome, answers, TableSaid, OutsetSaid}
use Rattle.model.specs.Rows.{Row, has_row, table_bytes, Ascending}
use Rattle.model.specs.Timeslice.{InReport}
use Rattle.model.specs.Numbering.{node_word}
use Rattle.model.specs.Tree.{Packed}
use Rattle.model.specs.Pages.{index_need}
use Rattle.model.specs.Memory.{Memory, State, Lendable, Passable, log_of, keys_of}
use Rattle.model.specs.declared.Held.{Held}
use Rattle.model.specs.declared.Place.TheVariants.{Area}
use Rattle.model.specs.Outset.{held, earlier_for, later_for}
use Rattle.model.specs.Between.{requests_between}
use Rattle.model.specs.NetChange.{Change, net_change_bytes, leads}
use Rattle.model.specs.Starts.{open_of}
use Rattle.model.specs.Positions.{PageAndCount}
use Rattle.model.specs.Queries.{answered_time, Written, Viewed, Netted, position_of, table_of, rows_part, view_of, rows_at, net_of}
use Rattle.model.specs.Files.{File, files_of, is_kept, keep_of, drop_of, drop_marked_of}
use Rattle.model.specs.Audit.{Audited}
use Rattle.model.specs.Facts.{InOrder}
use Rattle.model.specs.Units.{units_of, difference_of, UnitsTell, DifferenceTells}
use Rattle.model.specs.Promises.{is_refused}
use Rattle.model.specs.Calls.{Start, StartFits, begun, Call, AllFit, Said, positioned, written, viewed, netted, totalled, differed, answer_of, step, run, Accepted, Reachable}
use Rattle.model.specs.Chains.{Carried, RanFrom}

-- the state that a start and a list of calls leave
abbrev pub left : Start → List Call → State
left s cs = run (begun s).state cs

-- P holds after every list of calls, refused ones included, from every accepted start
abbrev pub AfterEveryList : (State → Type 0) → Type 0
AfterEveryList P = (s : Start) (cs : List Call) → StartFits s → AllFit cs → Accepted (begun s) → P (left s cs)

-- what makes the calls' promises hold along a list: the audit passes what it leaves
abbrev pub StaysAudited : Type 0
StaysAudited = AfterEveryList (λ st. Audited st)

-- "It says yes exactly for numbers and memory that some accepted calls from a fresh or opened store leave, else no"
abbrev pub AuditExact : Type 0
AuditExact = (st : State) → Passable st.numbers → Lendable st.memory → Audited st ↔ Reachable st

-- ---- demand 2

-- "the table for a time … is the report's timeslice of the log", for every time since 02's wish 2: the call is accepted, it
-- answers the number of the rows that it writes, zeros behind them, they ascend, and they are those of the report's set
-- for the time asked
pub record TableIsTimeslice (st : State) (t : ℕ) (table : Written TableSaid) : Type 0 where
  pub said : TableSaid
  pub rows : List Row
  pub answered : table.outcome ≡ answers said
  pub counted : said.rows ≡ length rows
  pub stand : take (8 * st.numbers.limit) table.output ≡ table_bytes st.numbers.limit rows
  pub ascending : Ascending 0 rows
  pub rows_are : (q : Row) → (has_row q rows ≡ true) ↔ InReport t q (log_of st)

-- "the index is the report's packed tree over the page times"
abbrev pub IndexIsPacked : State → Type 0
IndexIsPacked st = Packed (node_word st.numbers.order) st.numbers.order (keys_of st) st.memory.index

-- m holds the log of st, in memory long enough to open it
pub record HoldsLog (st : State) (m : Memory) : Type 0 where
  pub log_is : take (24 + 24 * st.numbers.records) m.log ≡ take (24 + 24 * st.numbers.records) st.memory.log
  pub long_log : 24 + 24 * st.numbers.records ≤ length m.log
  pub long_index : index_need st.numbers.order st.numbers.page st.numbers.records ≤ length m.index
  pub long_table : 8 * st.numbers.limit ≤ length m.table

-- "Opening the written log gives the same index and current table": a table is its rows' number and its bytes
pub record OpensAlike (st : State) (m : Memory) : Type 0 where
  pub accepted : Accepted (open_of m)
  pub same_index :
      let k = index_need st.numbers.order st.numbers.page st.numbers.records in
      take k (open_of m).state.memory.index ≡ take k st.memory.index
  pub same_live : (open_of m).state.numbers.live ≡ st.numbers.live
  pub one_and_the_same_table :
      let k = 8 * st.numbers.limit in
      take k (open_of m).state.memory.table ≡ take k st.memory.table

pub record DemandTwo (st : State) : Type 0 where
  pub tables : (t : ℕ) (out : List ℕ) → 8 * st.numbers.limit ≤ length out → TableIsTimeslice st t (table_of st t out)
  pub index : IndexIsPacked st
  pub reopened : (m : Memory) → Lendable m → HoldsLog st m → OpensAlike st m

abbrev pub SecondDemand : Type 0
SecondDemand = AfterEveryList DemandTwo

-- ---- demand 3

-- "The same table means the same number of rows and the same 8 × R bytes; side and distance may differ"
pub record SameTable (R : ℕ) (x y : Written TableSaid) : Type 0 where
  pub said : TableSaid
  pub said' : TableSaid
  pub answered : x.outcome ≡ answers said
  pub answered' : y.outcome ≡ answers said'
  pub same_rows : said.rows ≡ said'.rows
  pub same_bytes : take (8 * R) x.output ≡ take (8 * R) y.output

-- of the net change from a to b, as it was answered
pub record NetChangeIs (st : State) (a b : ℕ) (net : Netted) : Type 0 where
  -- the entries that the output holds, zeros behind them, "whose number of entries is the one answered"
  pub entries : List Change
  pub answered : net.outcome ≡ answers (length entries)
  pub stand : take (24 * st.numbers.limit) net.output ≡ net_change_bytes st.numbers.limit entries
  -- "two tables … are equal exactly when the net change worked out between them has no entry": the tables as answered
  pub none_iff_same : (x y : List ℕ) → 8 * st.numbers.limit ≤ length x → 8 * st.numbers.limit ≤ length y
      → (length entries ≡ 0) ↔ SameTable st.numbers.limit (table_of st a x) (table_of st b y)
  -- "leads from the one to the other, and no list of fewer legal insertions and deletions does"
  pub leads_there : leads entries (rows_at st a) (rows_at st b) ≡ true
  pub fewest : (others : List Change) → leads others (rows_at st a) (rows_at st b) ≡ true → length entries ≤ length others

-- the candidate on a side, for the time answered
unfoldable pub candidate : State → ℕ → Side → Held
candidate st t Earlier = earlier_for st (answered_time st.numbers.last t)
candidate st t Later = later_for st (answered_time st.numbers.last t)

-- every other outset then held has at least as many requests between it and the wanted time as the one used, whose
-- number is the one reported: "Every other outset then held lies at least as many log pages from the wanted time as the
-- one used, whose distance in pages is the one reported", which since 02's wish 6 "is then read in requests"
pub record OutsetIsNearest (st : State) (t : ℕ) (side : Side) (between : ℕ) : Type 0 where
  pub is_held : Memᴰ (candidate st t side) (held st)
  pub reported : between ≡ requests_between st t (candidate st t side).time
  pub nearest : (h : Held) → Memᴰ h (held st) → between ≤ requests_between st t h.time
  -- "the earlier one on a tie"
  pub later_nearer : side ≡ Later → between < requests_between st t (candidate st t Earlier).time

-- a table was answered from the nearest outset
pub record TableFromNearest (st : State) (t : ℕ) (table : Written TableSaid) : Type 0 where
  pub said : TableSaid
  pub answered : table.outcome ≡ answers said
  pub nearest : OutsetIsNearest st t said.side said.between

-- and a view answers it: where its rows lie, how many they are, and the rows themselves
pub record ViewIsNearest (st : State) (t : ℕ) (view : Viewed) : Type 0 where
  pub said : OutsetSaid
  pub answered : view.outcome ≡ answers said
  pub nearest : OutsetIsNearest st t said.side said.between
  pub place_is : said.place ≡ (candidate st t said.side).place
  pub rows_are : said.rows ≡ (candidate st t said.side).rows
  pub part_is : view.rows ≡ rows_part st.numbers.limit st.memory said.place said.rows

pub record DemandThree (st : State) : Type 0 where
  pub net_changes : (a b : ℕ) (out work : List ℕ) → 24 * st.numbers.limit ≤ length out → 16 * st.numbers.limit ≤ length work → NetChangeIs st a b (net_of st a b out work)
  pub outsets : (t : ℕ) (out : List ℕ) → 8 * st.numbers.limit ≤ length out → TableFromNearest st t (table_of st t out)
  pub views : (t : ℕ) → ViewIsNearest st t (view_of st t)

-- "One log means the same header and the same n records, byte for byte"
pub record OneLog (st other : State) : Type 0 where
  pub same_count : st.numbers.records ≡ other.numbers.records
  pub same_bytes : take (24 + 24 * st.numbers.records) st.memory.log ≡ take (24 + 24 * st.numbers.records) other.memory.log

-- for each time two stores answer the same table
abbrev pub OneTable : State → State → Type 0
OneTable st other =
    (t : ℕ) (out out' : List ℕ) → 8 * st.numbers.limit ≤ length out → 8 * st.numbers.limit ≤ length out'
    → SameTable st.numbers.limit (table_of st t out) (table_of other t out')

-- "Whichever count files were kept or deleted, two such lists of calls that leave one log give the same table"
abbrev pub SameTables : Type 0
SameTables =
    (s s' : Start) (cs cs' : List Call) → StartFits s → StartFits s' → AllFit cs → AllFit cs' → Accepted (begun s) → Accepted (begun s')
    → OneLog (left s cs) (left s' cs') → OneTable (left s cs) (left s' cs')

-- "No table may differ because a marked file has gone" (02, wish 3): of one store, before and after
abbrev pub NoTableDiffers : Type 0
NoTableDiffers = (st : State) (k : ℕ) → InOrder st → OneTable st (drop_marked_of st k).state

-- the marks of the files of time t: one where such a file is held, else none
unfoldable pub marks_at : ℕ → List File → List ℕ
marks_at t [] = []
marks_at t (f ∷ fs) = cond (eqb f.entry.time t) (f.entry.mark ∷ marks_at t fs) (marks_at t fs)

-- those that are not k
unfoldable pub other_marks : ℕ → List ℕ → List ℕ
other_marks k [] = []
other_marks k (j ∷ js) = cond (eqb j k) (other_marks k js) (j ∷ other_marks k js)

-- "a count file [is held] from the accepted keep of its time until an accepted call deletes it", with the mark it was
-- kept with: the marks at time t after a call, and after a list of calls
unfoldable pub held_next : ℕ → List ℕ → State → Call → List ℕ
held_next t before st (Call.insert u a c) = before
held_next t before st (Call.delete u a) = before
held_next t before st (Call.update u a c) = before
held_next t before st (Call.position u) = before
held_next t before st (Call.table u out) = before
held_next t before st (Call.view u) = before
held_next t before st (Call.net_change a b out work) = before
held_next t before st (Call.units u) = before
held_next t before st (Call.difference a b) = before
held_next t before st (Call.keep u k) = cond (eqb u t && not (is_refused (keep_of st u k).outcome)) (k ∷ before) before
held_next t before st (Call.drop u) = cond (eqb u t && not (is_refused (drop_of st u).outcome)) [] before
held_next t before st (Call.drop_marked k) = cond (is_refused (drop_marked_of st k).outcome) before (other_marks k before)
held_next t before st Call.audit = before

unfoldable pub held_after : ℕ → List ℕ → State → List Call → List ℕ
held_after t before st [] = before
held_after t before st (c ∷ cs) = held_after t (held_next t before st c) (step st c) cs

-- whether there is one
unfoldable pub some : List ℕ → Bool
some [] = false
some (k ∷ ks) = true

-- one of the outsets then held is a count file of time t
pub record FileHeld (st : State) (t : ℕ) : Type 0 where
  pub area : ℕ
  pub rows : ℕ
  pub is_held : Memᴰ (record { time = t; place = Area area; rows = rows }) (held st)

-- a count file of time t is held exactly where a mark is due, with that mark, and is then one of the outsets
pub record HeldWith (t : ℕ) (st : State) (due : List ℕ) : Type 0 where
  pub marks : marks_at t (files_of st) ≡ due
  pub kept : is_kept t (files_of st) ≡ some due
  pub outset : (some due ≡ true) ↔ FileHeld st t

abbrev pub HeldSinceKept : Type 0
HeldSinceKept =
    (s : Start) (cs : List Call) → StartFits s → AllFit cs → Accepted (begun s) → (t : ℕ)
    → HeldWith t (left s cs) (held_after t [] (begun s).state cs)

pub record ThirdDemand : Type 0 where
  pub after_every_list : AfterEveryList DemandThree
  pub same_tables : SameTables
  pub no_table_differs : NoTableDiffers
  pub held_since_kept : HeldSinceKept

-- ---- positions (02, wish 5)

-- the call is accepted, and page and count are tied to the log's records
pub record PositionTells (st : State) (t : ℕ) (o : Outcome Position) : Type 0 where
  pub said : Position
  pub answered : o ≡ answers said
  pub tied : PageAndCount st.numbers.page (log_of st) t said

abbrev pub PositionsTell : Type 0
PositionsTell = AfterEveryList (λ st. (t : ℕ) → PositionTells st t (position_of st t))

-- ---- units (02, wish 1)

-- of every time, and of every two
pub record UnitsHold (st : State) : Type 0 where
  pub totals : (t : ℕ) → UnitsTell st t (units_of st t)
  pub differences : (a b : ℕ) → DifferenceTells st a b (difference_of st a b)

-- after every list of calls
abbrev pub UnitsTold : Type 0
UnitsTold = AfterEveryList UnitsHold

-- ---- the same of calls that are made: `Made st c said st'` says that call c, made on st, answered said and left st', and
-- `From s cs st` that the calls cs made from the accepted start s left st. For `Carried` and `RanFrom` (Chains) each call keeps
-- the promise of its contract; for the exported calls they are those of the crate `exported`

-- a call made on st answers what its definition gives and leaves what it says; so demands 2 and 3 hold of the answers, and
-- positions and units tell what they must
pub record AnswersOf (Made : State → Call → Said → State → Type 0) (st : State) : Type 0 where
  pub each : (c : Call) (said : Said) (st' : State) → Made st c said st' → (said ≡ answer_of st c) × (st' ≡ step st c)
  pub positions : (t : ℕ) (o : Outcome Position) (st' : State) → Made st (Call.position t) (positioned o) st' → PositionTells st t o
  pub tables : (t : ℕ) (out : List ℕ) (table : Written TableSaid) (st' : State) → 8 * st.numbers.limit ≤ length out
      → Made st (Call.table t out) (written table) st' → TableIsTimeslice st t table × TableFromNearest st t table
  pub views : (t : ℕ) (view : Viewed) (st' : State) → Made st (Call.view t) (viewed view) st' → ViewIsNearest st t view
  pub net_changes : (a b : ℕ) (out work : List ℕ) (net : Netted) (st' : State) → 24 * st.numbers.limit ≤ length out → 16 * st.numbers.limit ≤ length work
      → Made st (Call.net_change a b out work) (netted net) st' → NetChangeIs st a b net
  pub units : (t : ℕ) (o : Outcome ℕ) (st' : State) → Made st (Call.units t) (totalled o) st' → UnitsTell st t o
  pub differences : (a b : ℕ) (o : Outcome ℤ) (st' : State) → Made st (Call.difference a b) (differed o) st' → DifferenceTells st a b o

-- whatever list of calls is made from an accepted fresh store or opening: the store is what `run` gives, the audit says
-- yes to it, demands 2 and 3 hold of it and of what the next call on it answers, and the count files due are held
pub record StoreKeeps (Made : State → Call → Said → State → Type 0) (s : Start) (cs : List Call) (st : State) : Type 0 where
  pub is_run : st ≡ left s cs
  pub audited : Audited st
  pub second : DemandTwo st
  pub third : DemandThree st
  pub answered : AnswersOf Made st
  pub files : (t : ℕ) → HeldWith t st (held_after t [] (begun s).state cs)

abbrev pub KeepsBy : (From : Start → List Call → State → Type 0) (Made : State → Call → Said → State → Type 0) → Type 0
KeepsBy From Made = (s : Start) (cs : List Call) (st : State) → StartFits s → AllFit cs → From s cs st → StoreKeeps Made s cs st

abbrev pub CodeKeeps : Type 0
CodeKeeps = KeepsBy RanFrom Carried

-- two lists of calls made that leave one log: two table calls made then, one on each store, answer the same table
abbrev pub SameTablesBy : (From : Start → List Call → State → Type 0) (Made : State → Call → Said → State → Type 0) → Type 0
SameTablesBy From Made =
    (s s' : Start) (cs cs' : List Call) (st st' : State) → StartFits s → StartFits s' → AllFit cs → AllFit cs' → From s cs st → From s' cs' st' → OneLog st st'
    → (t : ℕ) (out out' : List ℕ) (x y : Written TableSaid) (z z' : State) → 8 * st.numbers.limit ≤ length out → 8 * st.numbers.limit ≤ length out'
    → Made st (Call.table t out) (written x) z → Made st' (Call.table t out') (written y) z' → SameTable st.numbers.limit x y

abbrev pub CodeSameTables : Type 0
CodeSameTables = SameTablesBy RanFrom Carried
