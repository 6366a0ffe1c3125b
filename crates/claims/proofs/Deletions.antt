-- The order of deletions (02, wish 9): from a store in order, lists of drops and marked deletions that leave the same times held leave
-- the same store, other calls but keep among them the same catalogue and areas; after every list of calls, and of calls that code makes.
-- Assumes nothing.
use Prim.Native.Nat.{ℕ}
use mathlib.Core.Path.{◌≡◌, refl, sym, ap, ◌∙◌}
use mathlib.Core.Logic.{◌⊎◌, inl, inr}
use mathlib.Core.List.Memᴰ
use mathlib.Core.List.{List, [], ◌∷◌, Memᴰ}
use mathlib.Core.Bool.{Bool, true, false, not}
use lib.ListN.{length}
use Rattle.model.specs.declared.Entry.{Entry}
use Rattle.model.specs.Memory.{State, state, log_of, sound}
use Rattle.model.specs.Files.{File, files_of, is_kept, with_files, with_count, staying, closed_up, reduced}
use Rattle.model.specs.Facts.{InOrder}
use Rattle.model.specs.Calls.{Call, AllFit, step, run}
use Rattle.model.specs.LateTimes.{IsKeep}
use Rattle.model.specs.Demands.{left}
use Rattle.model.specs.Deletions.{IsDeletion, IsNoKeep, Each, lets_go, spared, SameCalls, SameHeld, SameFiles, LeftBy, OrderIsFree, OrderOfDeletions, CodeOrderOfDeletions}
use Rattle.model.proofs.Compare.{and_left, and_right, and_both}
use Rattle.model.proofs.AuditLaws.{audited_facts, audited_sound}
use Rattle.model.proofs.RemovalLaws.{left_files, reduced-twice}
use Rattle.model.proofs.RemovalLists.{all_stay, deletion_reduces, deletions_leave}
use Rattle.model.proofs.HeldTimes.{told_by_times}
use Rattle.model.proofs.Untouched.{files_alike, same_files, files_turned, files_through, insert_untouched, delete_untouched, update_untouched}
use Rattle.claims.proofs.Lists.{step_in_order, stays_in_order}
use Rattle.claims.proofs.Made.{ran_is, ran_from_is}

-- ---- the calls of a list

module _ (e : Entry) where
  spares-member : (c : Call) (es : List Call) → Memᴰ c es → spared es e ≡ true → not (lets_go c e) ≡ true
  unfolding spared
  spares-member c [] m h = absurd (Memᴰ.not-nil m)
  spares-member c (d ∷ es) m h = by (spares-member c es) (Memᴰ.cases_cons m)
    where
      by : (Memᴰ c es → spared es e ≡ true → not (lets_go c e) ≡ true) → (c ≡ d) ⊎ Memᴰ c es → not (lets_go c e) ≡ true
      by rest (inl q) = rw q (and_left (not (lets_go d e)) (spared es e) h)
      by rest (inr n) = rest n (and_right (not (lets_go d e)) (spared es e) h)

  -- a list whose calls are all among another's spares what the other spares
  spared-by-fewer : (ds es : List Call) → ((c : Call) → Memᴰ c ds → Memᴰ c es) → spared es e ≡ true → spared ds e ≡ true
  unfolding spared
  spared-by-fewer [] es sub h = refl
  spared-by-fewer (c ∷ ds) es sub h =
      and_both (spares-member c es (sub c (Memᴰ.head refl)) h) (spared-by-fewer ds es (λ d m. sub d (Memᴰ.tail m)) h)

  -- lists of the same calls spare the same
  spared-alike : (ds es : List Call) → SameCalls ds es → spared ds e ≡ spared es e
  spared-alike ds es same = by (spared ds e) (spared es e) (spared-by-fewer es ds (λ c. (same c).1)) (spared-by-fewer ds es (λ c. (same c).0))
    where
      by : (a b : Bool) → (a ≡ true → b ≡ true) → (b ≡ true → a ≡ true) → a ≡ b
      by true b f g = sym (f refl)
      by false true f g = g refl
      by false false f g = refl

-- two tests that agree
staying_alike : (p q : Entry → Bool) → ((e : Entry) → p e ≡ q e) → (fs : List File) → staying p fs ≡ staying q fs
unfolding staying
staying_alike p q same [] = refl
staying_alike p q same (f ∷ fs) = rw (same f.entry, staying_alike p q same fs)

-- ---- other calls between

-- the same files removed from the same
reduced_alike : (p : Entry → Bool) {x y : State} → SameFiles x y → SameFiles (reduced p x) (reduced p y)
reduced_alike p s =
    record {
      same_limit = s.same_limit;
      same_count = ap (λ (fs : List File). length (staying p fs)) (files_alike s);
      same_catalogue = rw (s.same_limit, s.same_count, s.same_catalogue, s.same_areas);
      same_areas = rw (s.same_limit, s.same_count, s.same_catalogue, s.same_areas);
    }

-- a call that is no keep: of catalogue and areas what is left is a removal
step_files : (st : State) → sound st ≡ true → (c : Call) → IsNoKeep c → SameFiles (step st c) (reduced (λ e. not (lets_go c e)) st)
unfolding step lets_go
step_files st h (Call.insert t a c) n = rw (all_stay st h) (insert_untouched st t a c)
step_files st h (Call.delete t a) n = rw (all_stay st h) (delete_untouched st t a)
step_files st h (Call.update t a c) n = rw (all_stay st h) (update_untouched st t a c)
step_files st h (Call.position t) n = rw (all_stay st h) (same_files st)
step_files st h (Call.table t out) n = rw (all_stay st h) (same_files st)
step_files st h (Call.view t) n = rw (all_stay st h) (same_files st)
step_files st h (Call.net_change a b out work) n = rw (all_stay st h) (same_files st)
step_files st h (Call.units t) n = rw (all_stay st h) (same_files st)
step_files st h (Call.difference a b) n = rw (all_stay st h) (same_files st)
step_files st h (Call.keep t k) n = absurd (n (IsKeep.keeps t k))
step_files st h (Call.drop t) n = rw (deletion_reduces st h (Call.drop t) (IsDeletion.drops t)) (same_files _)
step_files st h (Call.drop_marked k) n = rw (deletion_reduces st h (Call.drop_marked k) (IsDeletion.drops_marked k)) (same_files _)
step_files st h Call.audit n = rw (all_stay st h) (same_files st)

held_alike : {x x' y y' : State} → SameFiles x x' → SameFiles y y' → SameHeld x y → SameHeld x' y'
held_alike a b same t = rw (← files_alike a, ← files_alike b) (same t)

-- and a list of them
run_files : (st : State) (ds : List Call) → InOrder st → AllFit ds → Each IsNoKeep ds → SameFiles (run st ds) (reduced (spared ds) st)
unfolding run AllFit Each spared
run_files st [] o f n = rw (all_stay st (audited_sound st o.audited)) (same_files st)
run_files st (c ∷ ds) o f n =
    let h = audited_sound st o.audited in
    rw (← reduced-twice st h (λ e. not (lets_go c e)) (spared ds))
    (files_through (run_files (step st c) ds (step_in_order st c f.0 o) f.1 n.1) (reduced_alike (spared ds) (step_files st h c n.0)))

-- ---- from a store in order

module _ (st : State) (o : InOrder st) where
  -- by two tests that leave the same files, or the same times
  reduced-by : (p q : Entry → Bool) → staying p (files_of st) ≡ staying q (files_of st) → reduced p st ≡ reduced q st
  reduced-by p q same = ap (λ (gs : List File). state (with_count st.numbers (length gs)) (with_files (closed_up st.numbers.limit st.numbers.files gs) st.memory)) same

  reduced-told : (p q : Entry → Bool) → SameHeld (reduced p st) (reduced q st) → reduced p st ≡ reduced q st
  reduced-told p q same =
      let h = audited_sound st o.audited in
      let R = st.numbers.limit in
      let times : (t : ℕ) → is_kept t (staying p (files_of st)) ≡ is_kept t (staying q (files_of st)) = λ t. rw (← left_files st h p, ← left_files st h q) (same t) in
      reduced-by p q (told_by_times R st.numbers.last (log_of st) p q 0 (files_of st) (audited_facts st o.audited).files_are times)

  order-is-free : (Leaves : List Call → State → Type 0) → ((ds : List Call) (x : State) → AllFit ds → Leaves ds x → x ≡ run st ds) → OrderIsFree Leaves
  order-is-free Leaves is =
      record {
        same_go = λ ds es x y l m same.
            let a = deleted ds x l in
            let b = deleted es y m in
            a ∙ reduced-told (spared ds) (spared es) (rw (a, b) at same) ∙ sym b;
        any_order = λ ds es x y l m same.
            deleted ds x l ∙ reduced-by (spared ds) (spared es) (staying_alike (spared ds) (spared es) (λ e. spared-alike e ds es same) (files_of st))
            ∙ sym (deleted es y m);
        no_keep = λ ds es x y l m same.
            let a = filed ds x l in
            let b = filed es y m in
            files_through a (rw (reduced-told (spared ds) (spared es) (held_alike a b same)) (files_turned b));
      }
    where
      deleted : (ds : List Call) (x : State) → LeftBy IsDeletion Leaves ds x → x ≡ reduced (spared ds) st
      deleted ds x l = is ds x l.fit l.leaves ∙ deletions_leave st ds (audited_sound st o.audited) l.each

      filed : (ds : List Call) (x : State) → LeftBy IsNoKeep Leaves ds x → SameFiles x (reduced (spared ds) st)
      filed ds x l = rw (is ds x l.fit l.leaves) (run_files st ds o l.fit l.each)

-- ---- the theorems

pub order_of_deletions : OrderOfDeletions
order_of_deletions s cs sf cf e = order-is-free (left s cs) (stays_in_order s cs sf cf e) _ (λ ds x f l. l)

pub code_order_of_deletions : CodeOrderOfDeletions
code_order_of_deletions s cs st sf cf r =
    let o = (ran_from_is sf cf r).1 in
    order-is-free st o _ (λ ds x f l. (ran_is f o l).0)
