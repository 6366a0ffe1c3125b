-- What the lengths are worth, stated over the definitions that the calls' contracts cite: where so much is lent no call is refused
-- for want of memory, and where any region is shorter some call is. Assumes nothing.
use Rattle.std.specs.Prelude.{ℕ, ◌+◌, ◌≤◌, ◌<◌, ◌≡◌, ◌⊎◌, List, Bool, true, false, ◌||◌, length}
use Rattle.model.specs.declared.Numbers.{Numbers}
use Rattle.model.specs.Answers.{Outcome, refuses, first_no}
use Rattle.model.specs.Records.{header_order, header_page, header_limit, header_records}
use Rattle.model.specs.Marks.{is_mark}
use Rattle.model.specs.Memory.{Memory, State, sound}
use Rattle.model.specs.Starts.{fresh_of, open_of}
use Rattle.model.specs.Changes.{room_for}
use Rattle.model.specs.Queries.{net_of}
use Rattle.model.specs.Files.{files_of, is_kept, keep_of}
use Rattle.model.specs.Promises.{refused_by}
use Rattle.model.specs.Calls.{Start, fresh, opening, StartFits, begun, Call, AllFit, Said, changed, positioned, written, viewed, netted, totalled, differed, cleared, audited, answer_of, Accepted}
use Rattle.model.specs.Demands.{left}
use Rattle.logs.specs.Headers.{begins_log}
use Rattle.lending.specs.declared.Lengths.{Lengths}

-- each of the five regions is at least as long
pub record Enough (l : Lengths) (m : Memory) : Type 0 where
  pub long_log : l.log ≤ length m.log
  pub long_index : l.index ≤ length m.index
  pub long_table : l.table ≤ length m.table
  pub entries_long : l.entries ≤ length m.catalogue
  pub areas_long : l.areas ≤ length m.areas

-- a store's settings, and those in the header of a log of n records
pub record SettingsAre (d N R : ℕ) (s : Numbers) : Type 0 where
  pub order_is : s.order ≡ d
  pub page_is : s.page ≡ N
  pub limit_is : s.limit ≡ R

pub record HeaderSays (d N R n : ℕ) (log : List ℕ) : Type 0 where
  pub order_is : header_order log ≡ d
  pub page_is : header_page log ≡ N
  pub limit_is : header_limit log ≡ R
  pub records_is : header_records log ≡ n

-- ---- refused for want of memory

-- by 5, 10, 11, 13 or 15
unfoldable pub lacking : {A : Type 0} → Outcome A → Bool
lacking o = refused_by 5 o || refused_by 10 o || refused_by 11 o || refused_by 13 o || refused_by 15 o

unfoldable pub said_lacking : Said → Bool
said_lacking (changed o) = lacking o
said_lacking (positioned o) = lacking o
said_lacking (written w) = lacking w.outcome
said_lacking (viewed v) = lacking v.outcome
said_lacking (netted x) = lacking x.outcome
said_lacking (totalled o) = lacking o
said_lacking (differed o) = lacking o
said_lacking (cleared o) = lacking o
said_lacking (audited b) = false

-- ---- enough

-- what the call adds to the store stays within n records and f files, and its output and workspace are long enough
unfoldable pub Within : (n f : ℕ) → Lengths → State → Call → Type 0
Within n f l st (Call.insert t a c) = st.numbers.records + 1 ≤ n
Within n f l st (Call.delete t a) = st.numbers.records + 1 ≤ n
Within n f l st (Call.update t a c) = st.numbers.records + 2 ≤ n
Within n f l st (Call.position t) = Unit
Within n f l st (Call.table t out) = l.output ≤ length out
Within n f l st (Call.view t) = Unit
Within n f l st (Call.net_change a b out work) = (l.output ≤ length out) × (l.workspace ≤ length work)
Within n f l st (Call.units t) = Unit
Within n f l st (Call.difference a b) = Unit
Within n f l st (Call.keep t k) = st.numbers.files + 1 ≤ f
Within n f l st (Call.drop t) = Unit
Within n f l st (Call.drop_marked k) = Unit
Within n f l st Call.audit = Unit

-- one call on any state
abbrev pub EnoughForCall : (d N R n f : ℕ) → Lengths → Type 0
EnoughForCall d N R n f l =
    (st : State) → SettingsAre d N R st.numbers → Enough l st.memory → (c : Call) → Within n f l st c → said_lacking (answer_of st c) ≡ false

-- a fresh store is accepted, and no opening of a log of these settings with at most n records is refused by 5
pub record EnoughToStart (d N R n : ℕ) (l : Lengths) : Type 0 where
  pub fresh_store : (m : Memory) → Enough l m → Accepted (fresh_of d N R m)
  pub opened : (m : Memory) (k : ℕ) → k ≤ n → HeaderSays d N R k m.log → Enough l m → lacking (open_of m).outcome ≡ false

-- the memory that a start lends
unfoldable pub lent_by : Start → Memory
lent_by (fresh d N R m) = m
lent_by (opening m) = m

-- a call after any list of calls: the lengths are asked of the memory lent at the start
abbrev pub EnoughForCalls : (d N R n f : ℕ) → Lengths → Type 0
EnoughForCalls d N R n f l =
    (s : Start) (cs : List Call) (c : Call) → StartFits s → AllFit cs → Accepted (begun s)
    → SettingsAre d N R (begun s).state.numbers → Enough l (lent_by s)
    → Within n f l (left s cs) c → said_lacking (answer_of (left s cs) c) ≡ false

-- ---- no less

-- one less of any region and some call is refused for it
pub record NoLess (d N R n f : ℕ) (l : Lengths) : Type 0 where
  pub fresh_store : (m : Memory) → (length m.log < 24) ⊎ (length m.table < l.table) → (fresh_of d N R m).outcome ≡ refuses 5
  -- the opening of a log of n records
  pub opened : (m : Memory) → begins_log m.log ≡ true → HeaderSays d N R n m.log
      → (length m.log < l.log) ⊎ ((length m.index < l.index) ⊎ (length m.table < l.table)) → (open_of m).outcome ≡ refuses 5
  -- the appending of the n-th record
  pub log_full : (st : State) (more : ℕ) → st.numbers.records + more ≡ n → length st.memory.log < l.log → first_no (room_for st more) ≡ 10
  pub index_full : (st : State) (more : ℕ) → SettingsAre d N R st.numbers → st.numbers.records + more ≡ n → l.log ≤ length st.memory.log
      → length st.memory.index < l.index → first_no (room_for st more) ≡ 11
  -- the keeping of the f-th file
  pub kept : (st : State) (t k : ℕ) → SettingsAre d N R st.numbers → st.numbers.files + 1 ≡ f → sound st ≡ true → 0 < t → t ≤ st.numbers.last → is_mark k ≡ true
      → is_kept t (files_of st) ≡ false → (length st.memory.catalogue < l.entries) ⊎ (length st.memory.areas < l.areas)
      → (keep_of st t k).outcome ≡ refuses 15
  pub change_between : (st : State) (a b : ℕ) (out work : List ℕ) → SettingsAre d N R st.numbers → sound st ≡ true
      → (length out < l.output) ⊎ (length work < l.workspace) → (net_of st a b out work).outcome ≡ refuses 13
