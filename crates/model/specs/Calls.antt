-- Lists of calls (01, "Lists of calls"): starts, calls, what each answers and what a list leaves, made of the very
-- definitions that the calls' contracts cite; and the states that accepted calls leave. Assumes nothing.
use Rattle.std.specs.Prelude.{ℕ, ◌^◌, ◌<◌, ◌≡◌, List, [], ◌∷◌, Bool, ℤ}
use Rattle.codec.specs.LittleEndian.{AreBytes}
use Rattle.model.specs.declared.Position.{Position}
use Rattle.model.specs.Answers.{Outcome, answers, TableSaid}
use Rattle.model.specs.Memory.{Memory, State, Lendable}
use Rattle.model.specs.Starts.{Result, After, fresh_of, open_of}
use Rattle.model.specs.Changes.{insert_of, delete_of, update_of}
use Rattle.model.specs.Queries.{Written, Viewed, Netted, position_of, table_of, view_of, net_of}
use Rattle.model.specs.Files.{keep_of, drop_of, drop_marked_of}
use Rattle.model.specs.Audit.{audit_of}
use Rattle.model.specs.Units.{units_of, difference_of}

-- "A list of demand 3 starts at an accepted fresh store or opening"
pub data Start : Type 0 where
  fresh : (d N R : ℕ) → Memory → Start
  opening : Memory → Start

unfoldable pub begun : Start → After
begun (fresh d N R m) = fresh_of d N R m
begun (opening m) = open_of m

-- the calls of a list, with all that they are given: "Outputs and workspaces are each call's own"
pub data Call : Type 0 where
  insert : (t a c : ℕ) → Call
  delete : (t a : ℕ) → Call
  update : (t a c : ℕ) → Call
  position : (t : ℕ) → Call
  table : (t : ℕ) → (out : List ℕ) → Call
  view : (t : ℕ) → Call
  net_change : (a b : ℕ) → (out work : List ℕ) → Call
  units : (t : ℕ) → Call
  difference : (a b : ℕ) → Call
  keep : (t k : ℕ) → Call
  drop : (t : ℕ) → Call
  drop_marked : (k : ℕ) → Call
  audit : Call

-- the store after a call; queries and the audit change no part of it
unfoldable pub step : State → Call → State
step st (insert t a c) = (insert_of st t a c).state
step st (delete t a) = (delete_of st t a).state
step st (update t a c) = (update_of st t a c).state
step st (position t) = st
step st (table t out) = st
step st (view t) = st
step st (net_change a b out work) = st
step st (units t) = st
step st (difference a b) = st
step st (keep t k) = (keep_of st t k).state
step st (drop t) = (drop_of st t).state
step st (drop_marked k) = (drop_marked_of st k).state
step st audit = st

-- what a call answers, with what it leaves in an output and a workspace of its own
pub data Said : Type 0 where
  changed : Outcome Unit → Said
  positioned : Outcome Position → Said
  written : Written TableSaid → Said
  viewed : Viewed → Said
  netted : Netted → Said
  totalled : Outcome ℕ → Said
  differed : Outcome ℤ → Said
  cleared : Outcome ℕ → Said
  audited : Bool → Said

unfoldable pub answer_of : State → Call → Said
answer_of st (insert t a c) = changed (insert_of st t a c).outcome
answer_of st (delete t a) = changed (delete_of st t a).outcome
answer_of st (update t a c) = changed (update_of st t a c).outcome
answer_of st (position t) = positioned (position_of st t)
answer_of st (table t out) = written (table_of st t out)
answer_of st (view t) = viewed (view_of st t)
answer_of st (net_change a b out work) = netted (net_of st a b out work)
answer_of st (units t) = totalled (units_of st t)
answer_of st (difference a b) = differed (difference_of st a b)
answer_of st (keep t k) = changed (keep_of st t k).outcome
answer_of st (drop t) = changed (drop_of st t).outcome
answer_of st (drop_marked k) = cleared (drop_marked_of st k).outcome
answer_of st audit = audited (audit_of st)

-- "Each call gets the store's numbers and the lent [memory] as the last one returned or left them"
unfoldable pub run : State → List Call → State
run st [] = st
run st (c ∷ cs) = run (step st c) cs

-- ---- values of their types

unfoldable pub StartFits : Start → Type 0
StartFits (fresh d N R m) = (d < 2 ^ 16) × ((N < 2 ^ 16) × ((R < 2 ^ 32) × Lendable m))
StartFits (opening m) = Lendable m

unfoldable pub CallFits : Call → Type 0
CallFits (insert t a c) = (t < 2 ^ 64) × ((a < 2 ^ 32) × (c < 2 ^ 32))
CallFits (delete t a) = (t < 2 ^ 64) × (a < 2 ^ 32)
CallFits (update t a c) = (t < 2 ^ 64) × ((a < 2 ^ 32) × (c < 2 ^ 32))
CallFits (position t) = t < 2 ^ 64
CallFits (table t out) = (t < 2 ^ 64) × AreBytes out
CallFits (view t) = t < 2 ^ 64
CallFits (net_change a b out work) = (a < 2 ^ 64) × ((b < 2 ^ 64) × (AreBytes out × AreBytes work))
CallFits (units t) = t < 2 ^ 64
CallFits (difference a b) = (a < 2 ^ 64) × (b < 2 ^ 64)
CallFits (keep t k) = (t < 2 ^ 64) × (k < 2 ^ 32)
CallFits (drop t) = t < 2 ^ 64
CallFits (drop_marked k) = k < 2 ^ 32
CallFits audit = Unit

unfoldable pub AllFit : List Call → Type 0
AllFit [] = Unit
AllFit (c ∷ cs) = CallFits c × AllFit cs

-- ---- the states that accepted calls leave

abbrev pub Accepted : After → Type 0
Accepted a = a.outcome ≡ answers tt

-- so many files went
abbrev pub Went : ℕ → Result ℕ → Type 0
Went n a = a.outcome ≡ answers n

-- a constructor for each start and each accepted call; a query or an audit leaves the state it was given
pub data Reachable : State → Type 0 where
  started : (s : Start) → StartFits s → Accepted (begun s) → Reachable (begun s).state
  inserted : {st : State} (t a c : ℕ) → Reachable st → CallFits (insert t a c) → Accepted (insert_of st t a c) → Reachable (insert_of st t a c).state
  deleted : {st : State} (t a : ℕ) → Reachable st → CallFits (delete t a) → Accepted (delete_of st t a) → Reachable (delete_of st t a).state
  updated : {st : State} (t a c : ℕ) → Reachable st → CallFits (update t a c) → Accepted (update_of st t a c) → Reachable (update_of st t a c).state
  kept : {st : State} (t k : ℕ) → Reachable st → CallFits (keep t k) → Accepted (keep_of st t k) → Reachable (keep_of st t k).state
  dropped : {st : State} (t : ℕ) → Reachable st → CallFits (drop t) → Accepted (drop_of st t) → Reachable (drop_of st t).state
  marked_dropped : {st : State} (k n : ℕ) → Reachable st → CallFits (drop_marked k) → Went n (drop_marked_of st k) → Reachable (drop_marked_of st k).state
