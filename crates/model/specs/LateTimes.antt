-- A time after the last request (02, wish 2), of the very definitions that the calls' promises cite and in every memory: up to
-- the last request the queries answer what they answered before the wish, later times as the last, and 12 is met by a keep
-- alone. None of it mentions how the time answered is found. Assumes nothing.
use Rattle.std.specs.Prelude.{ℕ, ◌*◌, ◌≤◌, ◌<◌, ◌≡◌, List, [], ◌∷◌, ◌++◌, Bool, true, false, ◌&&◌, length, leb, ℤ}
use Rattle.model.specs.declared.Position.{Position}
use Rattle.model.specs.Answers.{Outcome, answers, refuses, question, asks, first_no, unless_no, TableSaid}
use Rattle.model.specs.Memory.{State, sound, standing}
use Rattle.model.specs.Positions.{position_at}
use Rattle.model.specs.Queries.{position_of, Written, table_questions, table_at, no_table, table_of, Viewed, view_at, no_view, view_of, Netted, net_questions, net_at, no_net, net_of}
use Rattle.model.specs.Changes.{unchanged}
use Rattle.model.specs.Files.{time_held, keep_questions, keep_of}
use Rattle.model.specs.Units.{units_at, difference, units_of, difference_of}
use Rattle.model.specs.Promises.{refused_by}
use Rattle.model.specs.Calls.{Start, begun, Call, Said, changed, positioned, written, viewed, netted, totalled, differed, cleared, audited, answer_of}

-- ---- before the wish: "time at most the last? 12", of two times "a, then b? 12", and the time as it was asked

abbrev pub position_before : State → ℕ → Outcome Position
position_before st t = unless_no (first_no (standing st ++ (time_held st t ∷ []))) (answers (position_at st t)) refuses

abbrev pub table_before : State → ℕ → List ℕ → Written TableSaid
table_before st t out =
    let long = question 13 (leb (8 * st.numbers.limit) (length out)) in
    unless_no (first_no (standing st ++ (time_held st t ∷ long ∷ []))) (table_at st t out) (no_table out)

abbrev pub view_before : State → ℕ → Viewed
view_before st t = unless_no (first_no (standing st ++ (time_held st t ∷ []))) (view_at st t) (no_view st)

abbrev pub net_before : State → (a b : ℕ) → (out work : List ℕ) → Netted
net_before st a b out work =
    let R = st.numbers.limit in
    let long = question 13 (leb (24 * R) (length out) && leb (16 * R) (length work)) in
    unless_no (first_no (standing st ++ (time_held st a ∷ time_held st b ∷ long ∷ []))) (net_at st a b out work) (no_net out work)

abbrev pub units_before : State → ℕ → Outcome ℕ
units_before st t = unless_no (first_no (standing st ++ (time_held st t ∷ []))) (answers (units_at st t)) refuses

abbrev pub difference_before : State → (a b : ℕ) → Outcome ℤ
difference_before st a b =
    unless_no (first_no (standing st ++ (time_held st a ∷ time_held st b ∷ []))) (answers (difference st a b)) refuses

-- "Every time answered before is answered as before"
pub record AsBefore (st : State) : Type 0 where
  pub position : (t : ℕ) → t ≤ st.numbers.last → position_of st t ≡ position_before st t
  pub table : (t : ℕ) (out : List ℕ) → t ≤ st.numbers.last → table_of st t out ≡ table_before st t out
  pub view : (t : ℕ) → t ≤ st.numbers.last → view_of st t ≡ view_before st t
  pub change_between : (a b : ℕ) (out work : List ℕ) → a ≤ st.numbers.last → b ≤ st.numbers.last → net_of st a b out work ≡ net_before st a b out work
  pub units : (t : ℕ) → t ≤ st.numbers.last → units_of st t ≡ units_before st t
  pub difference : (a b : ℕ) → a ≤ st.numbers.last → b ≤ st.numbers.last → difference_of st a b ≡ difference_before st a b

-- ---- a later time

-- "now answer such a time as they answer the time of the last request", of two times each by itself
pub record AsTheLast (st : State) : Type 0 where
  pub position : (t : ℕ) → st.numbers.last < t → position_of st t ≡ position_of st st.numbers.last
  pub table : (t : ℕ) (out : List ℕ) → st.numbers.last < t → table_of st t out ≡ table_of st st.numbers.last out
  pub view : (t : ℕ) → st.numbers.last < t → view_of st t ≡ view_of st st.numbers.last
  pub net_change_from : (a b : ℕ) (out work : List ℕ) → st.numbers.last < a → net_of st a b out work ≡ net_of st st.numbers.last b out work
  pub net_change_to : (a b : ℕ) (out work : List ℕ) → st.numbers.last < b → net_of st a b out work ≡ net_of st a st.numbers.last out work
  pub units : (t : ℕ) → st.numbers.last < t → units_of st t ≡ units_of st st.numbers.last
  pub difference_from : (a b : ℕ) → st.numbers.last < a → difference_of st a b ≡ difference_of st st.numbers.last b
  pub difference_to : (a b : ℕ) → st.numbers.last < b → difference_of st a b ≡ difference_of st a st.numbers.last

-- with no record, as time 0
pub record AsTimeZero (st : State) : Type 0 where
  pub position : (t : ℕ) → position_of st t ≡ position_of st 0
  pub table : (t : ℕ) (out : List ℕ) → table_of st t out ≡ table_of st 0 out
  pub view : (t : ℕ) → view_of st t ≡ view_of st 0
  pub change_between : (a b : ℕ) (out work : List ℕ) → net_of st a b out work ≡ net_of st 0 0 out work
  pub units : (t : ℕ) → units_of st t ≡ units_of st 0
  pub difference : (a b : ℕ) → difference_of st a b ≡ difference_of st 0 0

abbrev pub EveryTimeAnswered : Type 0
EveryTimeAnswered = (st : State) → AsBefore st × (AsTheLast st × (st.numbers.records ≡ 0 → AsTimeZero st))

-- ---- "Only a keep can meet 12 from here on"

-- position, view, units and difference ask the standing questions alone
pub record TimeAskedByKeep (st : State) : Type 0 where
  pub standing_without : asks 12 (standing st) ≡ false
  pub table_without : (out : List ℕ) → asks 12 (table_questions st out) ≡ false
  pub net_change_without : (out work : List ℕ) → asks 12 (net_questions st out work) ≡ false
  pub keep_with : (t k : ℕ) → asks 12 (keep_questions st t k) ≡ true

-- a call of a list was refused by question k
unfoldable pub said_refused_by : ℕ → Said → Bool
said_refused_by k (changed o) = refused_by k o
said_refused_by k (positioned o) = refused_by k o
said_refused_by k (written w) = refused_by k w.outcome
said_refused_by k (viewed v) = refused_by k v.outcome
said_refused_by k (netted n) = refused_by k n.outcome
said_refused_by k (totalled o) = refused_by k o
said_refused_by k (differed o) = refused_by k o
said_refused_by k (cleared o) = refused_by k o
said_refused_by k (audited b) = false

pub data IsKeep : Call → Type 0 where
  keeps : (t k : ℕ) → IsKeep (Call.keep t k)

-- of all starts and calls only a keep is refused by 12; "Keeping a file for such a time remains refused by 12", and nothing
-- changes
pub record OnlyKeepMeets12 : Type 0 where
  pub no_start : (s : Start) → refused_by 12 (begun s).outcome ≡ false
  pub keep_alone : (st : State) (c : Call) → said_refused_by 12 (answer_of st c) ≡ true → IsKeep c
  pub keep_refused : (st : State) (t k : ℕ) → sound st ≡ true → st.numbers.last < t → keep_of st t k ≡ unchanged st 12

-- the same of every call that is made, on any memory: the promises of the others name questions that 12 is not among
abbrev pub OnlyKeepRefusedBy12 : (Made : State → Call → Said → State → Type 0) → Type 0
OnlyKeepRefusedBy12 Made = (st : State) (c : Call) (said : Said) (st' : State) → Made st c said st' → said_refused_by 12 said ≡ true → IsKeep c
