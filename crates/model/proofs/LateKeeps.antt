-- "Only a keep can meet 12 from here on" (02, wish 2): no other call asks it, so none is refused by it; and a keep for a time after
-- the last is. Assumes nothing.
use Prim.Native.Nat.{ℕ, ◌<◌}
use mathlib.Core.Path.{◌≡◌, refl, sym, ap, ◌∙◌}
use mathlib.Core.List.{List, [], ◌∷◌, ◌++◌, map}
use mathlib.Core.Bool.{Bool, true, false, cond, false≢true}
use lib.ListN.{replicate}
use lib.IntN.{ℤ}
use lib.Dec.{eqb}
use borrow.Author.Tests.{lt-leb, eqb-true}
use Rattle.model.specs.declared.Position.{Position}
use Rattle.model.specs.Answers.{Outcome, answers, refuses, refuses_at, Question, asks, first_no, TableSaid}
use Rattle.model.specs.Memory.{State, sound, standing}
use Rattle.model.specs.Starts.{Result, After, after, fresh_questions, fresh_of, open_questions, well_written, open_of, not_started}
use Rattle.model.specs.Changes.{unchanged, insert_questions, present_questions, insert_of, delete_of, update_of}
use Rattle.model.specs.Queries.{position_of, Written, table_questions, table_of, Viewed, view_of, Netted, net_questions, net_of}
use Rattle.model.specs.Files.{keep_of, drop_questions, drop_of, drop_marked_questions, drop_marked_of}
use Rattle.model.specs.Units.{units_of, difference_of}
use Rattle.model.specs.Promises.{refused_by, refused_number, FirstNoRefuses, by_one_of}
use Rattle.model.specs.Chains.{Carried}
use Rattle.model.specs.Calls.{Start, fresh, opening, begun, Call, answer_of}
use Rattle.model.specs.LateTimes.{TimeAskedByKeep, said_refused_by, IsKeep, keeps, OnlyKeepMeets12, OnlyKeepRefusedBy12}
use Rattle.model.proofs.PromiseLaws.{not_first, unless}
use Rattle.model.proofs.LateComputed.{computing, two, filed}

-- ---- computed

late-keeps : (keep_of two 21 0 ∷ keep_of filed 21 5 ∷ []) ≡ after (refuses 12) two ∷ after (refuses 12) filed ∷ []
unfolding computing
late-keeps = refl

-- which calls for 21 are refused by 12
met : map (λ (c : Call). said_refused_by 12 (answer_of two c))
    (Call.position 21 ∷ Call.table 21 [] ∷ Call.view 21 ∷ Call.net_change 21 21 [] [] ∷ Call.units 21 ∷ Call.difference 21 21 ∷ Call.keep 20 7 ∷ Call.keep 21 7 ∷ [])
    ≡ replicate 7 false ++ (true ∷ [])
unfolding computing
met = refl

-- ---- the questions

pub time_asked_by_keep : (st : State) → TimeAskedByKeep st
unfolding asks
time_asked_by_keep st = record { standing_without = refl; table_without = λ out. refl; net_change_without = λ out work. refl; keep_with = λ t k. refl }

not_by-12 : (qs : List Question) → asks 12 qs ≡ false → eqb (first_no qs) 12 ≡ false
not_by-12 = not_first 12 refl

-- ---- the calls

abbrev by12 : After → Bool
by12 r = refused_by 12 r.outcome

no_start : (s : Start) → refused_by 12 (begun s).outcome ≡ false
unfolding begun fresh_of open_of refused_by asks
no_start (fresh d N R m) = unless by12 (first_no (fresh_questions d N R m)) _ (not_started m) refl (not_by-12 (fresh_questions d N R m) refl)
no_start (opening m) = unless by12 (first_no (open_questions m)) _ (not_started m) (by (well_written m) _ _ refl refl) (not_by-12 (open_questions m) refl)
  where
    by : (b : Bool) (x y : After) → by12 x ≡ false → by12 y ≡ false → by12 (cond b x y) ≡ false
    by true x y e f = e
    by false x y e f = f

module _ (st : State) where
  -- a call that does not ask 12
  without : (c : Call) → said_refused_by 12 (answer_of st c) ≡ false → said_refused_by 12 (answer_of st c) ≡ true → IsKeep c
  without c e f = absurd (false≢true (sym e ∙ f))

  pub keep_alone : (c : Call) → said_refused_by 12 (answer_of st c) ≡ true → IsKeep c
  unfolding answer_of said_refused_by refused_by asks insert_of delete_of update_of position_of table_of view_of net_of units_of difference_of drop_of drop_marked_of
  keep_alone (Call.insert t a c) =
      without (Call.insert t a c) (unless by12 (first_no (insert_questions st t a)) _ (unchanged st) refl (not_by-12 (insert_questions st t a) refl))
  keep_alone (Call.delete t a) =
      without (Call.delete t a) (unless by12 (first_no (present_questions st t a 1)) _ (unchanged st) refl (not_by-12 (present_questions st t a 1) refl))
  keep_alone (Call.update t a c) =
      without (Call.update t a c) (unless by12 (first_no (present_questions st t a 2)) _ (unchanged st) refl (not_by-12 (present_questions st t a 2) refl))
  keep_alone (Call.position t) =
      without (Call.position t) (unless (λ (r : Outcome Position). refused_by 12 r) (first_no (standing st)) _ refuses refl (not_by-12 (standing st) refl))
  keep_alone (Call.table t out) =
      without (Call.table t out)
      (unless (λ (r : Written TableSaid). refused_by 12 r.outcome) (first_no (table_questions st out)) _ _ refl (not_by-12 (table_questions st out) refl))
  keep_alone (Call.view t) =
      without (Call.view t) (unless (λ (r : Viewed). refused_by 12 r.outcome) (first_no (standing st)) _ _ refl (not_by-12 (standing st) refl))
  keep_alone (Call.net_change a b out work) =
      without (Call.net_change a b out work)
      (unless (λ (r : Netted). refused_by 12 r.outcome) (first_no (net_questions st out work)) _ _ refl (not_by-12 (net_questions st out work) refl))
  keep_alone (Call.units t) =
      without (Call.units t) (unless (λ (r : Outcome ℕ). refused_by 12 r) (first_no (standing st)) _ refuses refl (not_by-12 (standing st) refl))
  keep_alone (Call.difference a b) =
      without (Call.difference a b) (unless (λ (r : Outcome ℤ). refused_by 12 r) (first_no (standing st)) _ refuses refl (not_by-12 (standing st) refl))
  keep_alone (Call.keep t k) = λ e. keeps t k
  keep_alone (Call.drop t) = without (Call.drop t) (unless by12 (first_no (drop_questions st t)) _ (unchanged st) refl (not_by-12 (drop_questions st t) refl))
  keep_alone (Call.drop_marked k) =
      without (Call.drop_marked k)
      (unless (λ (r : Result ℕ). refused_by 12 r.outcome) (first_no (drop_marked_questions st k)) _ (unchanged st) refl (not_by-12 (drop_marked_questions st k) refl))
  keep_alone Call.audit = without Call.audit refl

  pub keep_refused : (t k : ℕ) → sound st ≡ true → st.numbers.last < t → keep_of st t k ≡ unchanged st 12
  unfolding keep_of first_no
  keep_refused t k q h = rw (q, lt-leb _ _ h)

pub only_keep_meets-12 : OnlyKeepMeets12
only_keep_meets-12 = record { no_start = no_start; keep_alone = keep_alone; keep_refused = keep_refused }

-- ---- calls that are made

-- refused by a question of these, or by the first of them answered no, is not refused by one that is not among them
not_by_own : {A : Type 0} (qs : List Question) (o : Outcome A) → asks 12 qs ≡ false → by_one_of qs o ≡ true → refused_by 12 o ≡ false
unfolding by_one_of refused_by
not_by_own qs (answers x) e h = refl
not_by_own qs (refuses k) e h = by (eqb k 12) refl
  where
    by : (b : Bool) → eqb k 12 ≡ b → b ≡ false
    by true q = absurd (false≢true (sym e ∙ (rw (eqb-true k 12 q) at h)))
    by false q = refl
not_by_own qs (refuses_at k r) e h = absurd (false≢true h)

not_by_first : {A : Type 0} (qs : List Question) (o : Outcome A) → asks 12 qs ≡ false → FirstNoRefuses qs o → refused_by 12 o ≡ false
unfolding refused_number refused_by
not_by_first qs (answers x) e h = refl
not_by_first qs (refuses k) e h = rw h (not_by-12 qs e)
not_by_first qs (refuses_at k r) e h = rw h (not_by-12 qs e)

none_by-12 : {c : Call} {b : Bool} → b ≡ false → b ≡ true → IsKeep c
none_by-12 e f = absurd (false≢true (sym e ∙ f))

pub only_keep_refused_by-12 : OnlyKeepRefusedBy12 Carried
unfolding said_refused_by asks answer_of
only_keep_refused_by-12 st c said st' (Carried.insert t a n p) = none_by-12 (not_by_own (insert_questions st t a) _ refl p.asked.own)
only_keep_refused_by-12 st c said st' (Carried.delete t a p) = none_by-12 (not_by_own (present_questions st t a 1) _ refl p.asked.own)
only_keep_refused_by-12 st c said st' (Carried.update t a n p) = none_by-12 (not_by_own (present_questions st t a 2) _ refl p.asked.own)
only_keep_refused_by-12 st c said st' (Carried.position t p) = none_by-12 (not_by_first (standing st) _ refl p.asked)
only_keep_refused_by-12 st c said st' (Carried.table t out p) = none_by-12 (not_by_first (table_questions st out) _ refl p.asked)
only_keep_refused_by-12 st c said st' (Carried.view t p) = none_by-12 (not_by_first (standing st) _ refl p.asked)
only_keep_refused_by-12 st c said st' (Carried.net_change a b out work p) = none_by-12 (not_by_first (net_questions st out work) _ refl p.asked)
only_keep_refused_by-12 st c said st' (Carried.units t p) = none_by-12 (not_by_first (standing st) _ refl p.asked)
only_keep_refused_by-12 st c said st' (Carried.difference a b p) = none_by-12 (not_by_first (standing st) _ refl p.asked)
only_keep_refused_by-12 st c said st' (Carried.keep t k p) = λ e. keeps t k
only_keep_refused_by-12 st c said st' (Carried.drop t e) = λ q. keep_alone st (Call.drop t) (ap (λ (x : After). by12 x) (sym e) ∙ q)
only_keep_refused_by-12 st c said st' (Carried.drop_marked k e) = λ q. keep_alone st (Call.drop_marked k) (ap (λ (x : Result ℕ). refused_by 12 x.outcome) (sym e) ∙ q)
only_keep_refused_by-12 st c said st' (Carried.audit e) = λ q. absurd (false≢true q)
