-- The settings of a store and the lengths of the regions lent to it stay along every list of calls: so the lengths that
-- `lending` answers, lent at the start, are enough for each call of the list. Assumes nothing.
use Prim.Native.Nat.{ℕ}
use mathlib.Core.Path.{◌≡◌}
use mathlib.Core.List.{List, [], ◌∷◌}
use Rattle.model.specs.Answers.{answers, first_no}
use Rattle.model.specs.Records.{Rec}
use Rattle.model.specs.Memory.{Memory, State, state}
use Rattle.model.specs.Changes.{appended}
use Rattle.model.specs.Files.{keep_questions, keep_of, not_of, drop_questions, drop_of, not_marked, drop_marked_questions, drop_marked_of}
use Rattle.model.specs.Facts.{InOrder}
use Rattle.model.specs.Calls.{Start, StartFits, begun, Call, CallFits, AllFit, step, run, Accepted}
use Rattle.model.specs.Demands.{left}
use Rattle.model.proofs.Leaving.{either_left}
use Rattle.lending.specs.declared.Lengths.{Lengths}
use Rattle.lending.specs.Lengths.{lengths_of}
use Rattle.lending.specs.Enough.{Enough, SettingsAre, lent_by, EnoughForCalls}
use Rattle.lending.proofs.Sufficing.{enough_for_call}
use Rattle.claims.specs.Following.{MayFollow}
use Rattle.claims.proofs.Regions.{SameLengths}
use Rattle.claims.proofs.Started.{fresh-state, fresh-lengths}
use Rattle.claims.proofs.Opened.{open_state, open_lengths, start_audited}
use Rattle.claims.proofs.Appended.{appended-lengths}
use Rattle.claims.proofs.Changed.{insert_leaves, delete_leaves, update_leaves}
use Rattle.claims.proofs.Kept.{keep_asked, kept-lengths, reduced-lengths}
use Rattle.claims.proofs.Lists.{step_in_order}

module _ (d N R : ℕ) (l : Lengths) where
  -- a store of these settings, with at least these lengths lent to it
  pub record Served (st : State) : Type 0 where
    pub settings : SettingsAre d N R st.numbers
    pub enough : Enough l st.memory

  still-enough : {m m' : Memory} → SameLengths m m' → Enough l m → Enough l m'
  still-enough same e =
      record {
        long_log = rw same.log_same e.long_log;
        long_index = rw same.index_same e.long_index;
        long_table = rw same.table_same e.long_table;
        entries_long = rw same.entries_same e.entries_long;
        areas_long = rw same.areas_same e.areas_long;
      }

  -- ---- the start

  start-enough : (s : Start) → StartFits s → Accepted (begun s) → Enough l (lent_by s) → Enough l (begun s).state.memory
  unfolding begun StartFits lent_by
  start-enough (Start.fresh d' N' R' m) f ok e =
      let a = fresh-state d' N' R' m ok in
      rw a.1 (still-enough (fresh-lengths d' N' R' m a.0) e)
  start-enough (Start.opening m) f ok e =
      let a = open_state m ok in
      rw a.1 (still-enough (open_lengths m a.0.0 a.0.1 f) e)

  -- ---- one call

  module _ (st : State) (o : InOrder st) (h : Served st) where
    -- other counts, on regions as long
    still-served : (m' : Memory) (n u live files : ℕ) → SameLengths st.memory m'
        → let s = st.numbers in
        Served (state (record { order = s.order; page = s.page; limit = s.limit; records = n; last = u; live = live; files = files }) m')
    still-served m' n u live files same =
        let s = h.settings in
        record {
          settings = record { order_is = s.order_is; page_is = s.page_is; limit_is = s.limit_is };
          enough = still-enough same h.enough;
        }

    appended-served : (t : ℕ) (new : List Rec) → MayFollow st t new → Served (appended st t new)
    unfolding appended
    appended-served t new g = still-served _ _ _ _ _ (appended-lengths st t new o g)

    keep-served : (t k : ℕ) → Served (keep_of st t k).state
    unfolding keep_of
    keep-served t k =
        either_left (λ x. Served x) tt (first_no (keep_questions st t k)) st _ h (λ q. still-served _ _ _ _ _ (kept-lengths st o t k (keep_asked st t k q)))

    drop-served : (t : ℕ) → Served (drop_of st t).state
    unfolding drop_of
    drop-served t = either_left (λ x. Served x) tt (first_no (drop_questions st t)) st _ h (λ q. still-served _ _ _ _ _ (reduced-lengths (not_of t) st o))

    drop-marked-served : (k : ℕ) → Served (drop_marked_of st k).state
    unfolding drop_marked_of
    drop-marked-served k =
        either_left (λ x. Served x) _ (first_no (drop_marked_questions st k)) st _ h (λ q. still-served _ _ _ _ _ (reduced-lengths (not_marked k) st o))

    step-served : (c : Call) → CallFits c → Served (step st c)
    unfolding step
    step-served (Call.insert t a c) f = insert_leaves (λ x. Served x) st o h appended-served t a c f
    step-served (Call.delete t a) f = delete_leaves (λ x. Served x) st o h appended-served t a f
    step-served (Call.update t a c) f = update_leaves (λ x. Served x) st o h appended-served t a c f
    step-served (Call.position t) f = h
    step-served (Call.table t out) f = h
    step-served (Call.view t) f = h
    step-served (Call.net_change a b out work) f = h
    step-served (Call.units t) f = h
    step-served (Call.difference a b) f = h
    step-served (Call.keep t k) f = keep-served t k
    step-served (Call.drop t) f = drop-served t
    step-served (Call.drop_marked k) f = drop-marked-served k
    step-served Call.audit f = h

  -- ---- a list of calls

  run-served : (st : State) (cs : List Call) → AllFit cs → InOrder st → Served st → Served (run st cs)
  unfolding run AllFit
  run-served st [] f o h = h
  run-served st (c ∷ cs) f o h = run-served (step st c) cs f.1 (step_in_order st c f.0 o) (step-served st o h c f.0)

-- ---- the theorem

pub enough_for_calls : (d N R n f : ℕ) (l : Lengths) → lengths_of d N R n f ≡ answers l → EnoughForCalls d N R n f l
enough_for_calls d N R n f l e s cs c sf cf ok settings enough within =
    let first : Served d N R l (begun s).state = record { settings = settings; enough = start-enough d N R l s sf ok enough } in
    let h = run-served d N R l (begun s).state cs cf (start_audited s sf ok) first in
    enough_for_call d N R n f l e (left s cs) h.settings h.enough c within
