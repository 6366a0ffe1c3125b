-- A count file of a time is held, with its mark, from the accepted keep of that time until an accepted drop of it or of its mark,
-- along any list of calls, refused ones included (demand 3). Assumes nothing.
use Prim.Native.Nat.{ℕ, zero, suc, ◌<◌}
use mathlib.Core.Path.{◌≡◌, refl, sym, ap, ◌∙◌}
use mathlib.Core.List.{List, [], ◌∷◌}
use mathlib.Core.Bool.{Bool, true, false, not, cond, ◌&&◌, ◌||◌}
use native.Mathlib.Omega.{arith}
use lib.Dec.{ltb, eqb}
use borrow.Author.Tests.{ltb-true, eqb-true, eqb-false, ne_eqb}
use Rattle.model.specs.Answers.{first_no}
use Rattle.model.specs.Memory.{State}
use Rattle.model.specs.Files.{File, files_in, files_of, is_kept, keep_questions, file_in, file_at, keep_of, staying, not_of, drop_questions, drop_of, not_marked, drop_marked_questions, drop_marked_of}
use Rattle.model.specs.Promises.{is_refused}
use Rattle.model.specs.Facts.{InOrder}
use Rattle.model.specs.Calls.{begun, Call, AllFit, step, run}
use Rattle.model.specs.Demands.{left, marks_at, other_marks, held_next, held_after, some, HeldWith, HeldSinceKept}
use Rattle.model.proofs.Compare.{lt_eqb}
use Rattle.model.proofs.AuditLaws.{audited_sound}
use Rattle.model.proofs.HeldFiles.{kept_iff_held}
use Rattle.model.proofs.RemovalLaws.{left_files}
use Rattle.model.proofs.Untouched.{files_alike, insert_untouched, delete_untouched, update_untouched}
use Rattle.claims.proofs.Opened.{start_audited, start_files}
use Rattle.claims.proofs.Kept.{keep_asked, kept_files}
use Rattle.claims.proofs.Lists.{step_in_order}

-- ---- lists of files

-- one is held exactly where it has a mark
pub kept-marked : (t : ℕ) (fs : List File) → is_kept t fs ≡ some (marks_at t fs)
unfolding is_kept some marks_at
kept-marked t [] = refl
kept-marked t (x ∷ xs) = by (eqb x.entry.time t) (kept-marked t xs)
  where
    by : (q : Bool) → is_kept t xs ≡ some (marks_at t xs) → (q || is_kept t xs) ≡ some (cond q (x.entry.mark ∷ marks_at t xs) (marks_at t xs))
    by true ih = refl
    by false ih = ih

-- with a file more, its mark is one of its time's, and those of any other time are as before
pub marks_with : (t : ℕ) (f : File) (fs : List File) → marks_at t (file_in f fs) ≡ cond (eqb f.entry.time t) (f.entry.mark ∷ marks_at t fs) (marks_at t fs)
unfolding marks_at file_in
marks_with t f [] = refl
marks_with t f (x ∷ xs) = by (ltb x.entry.time f.entry.time) refl (marks_with t f xs)
  where
    -- x is earlier than f
    behind : x.entry.time < f.entry.time → (q : Bool) → eqb f.entry.time t ≡ q
        → cond (eqb x.entry.time t) (x.entry.mark ∷ cond q (f.entry.mark ∷ marks_at t xs) (marks_at t xs)) (cond q (f.entry.mark ∷ marks_at t xs) (marks_at t xs))
        ≡ cond q (f.entry.mark ∷ marks_at t (x ∷ xs)) (marks_at t (x ∷ xs))
    behind l true e = rw (lt_eqb {a = x.entry.time} {b = t} (omega (arith, eqb-true f.entry.time t e)))
    behind l false e = refl

    by : (p : Bool) → ltb x.entry.time f.entry.time ≡ p
        → marks_at t (file_in f xs) ≡ cond (eqb f.entry.time t) (f.entry.mark ∷ marks_at t xs) (marks_at t xs)
        → marks_at t (cond p (x ∷ file_in f xs) (f ∷ (x ∷ xs))) ≡ cond (eqb f.entry.time t) (f.entry.mark ∷ marks_at t (x ∷ xs)) (marks_at t (x ∷ xs))
    by true e ih = rw ih (behind (ltb-true _ _ e) (eqb f.entry.time t) refl)
    by false e ih = refl

-- without the files of time u there is none of time u, and of any other time as before
pub marks_without : (t u : ℕ) (fs : List File) → marks_at t (staying (not_of u) fs) ≡ cond (eqb u t) [] (marks_at t fs)
unfolding marks_at staying
marks_without t u [] = by (eqb u t)
  where
    by : (q : Bool) → ◌≡◌ {A = List ℕ} [] (cond q [] [])
    by true = refl
    by false = refl
marks_without t u (x ∷ xs) = by (eqb x.entry.time u) refl (eqb u t) refl (marks_without t u xs)
  where
    by : (p : Bool) → eqb x.entry.time u ≡ p → (q : Bool) → eqb u t ≡ q → marks_at t (staying (not_of u) xs) ≡ cond q [] (marks_at t xs)
        → marks_at t (cond (not p) (x ∷ staying (not_of u) xs) (staying (not_of u) xs)) ≡ cond q [] (marks_at t (x ∷ xs))
    by true e true f ih = ih
    by true e false f ih = let is : x.entry.time ≡ u = eqb-true _ _ e in ih ∙ rw (is, f)
    by false e true f ih =
        let is : u ≡ t = eqb-true _ _ f in
        rw (ih, ne_eqb x.entry.time t (λ g. eqb-false _ _ e (g ∙ sym is)))
    by false e false f ih = rw ih

-- without the files of a mark, the other marks stay
pub marks_other : (t k : ℕ) (fs : List File) → marks_at t (staying (not_marked k) fs) ≡ other_marks k (marks_at t fs)
unfolding marks_at staying other_marks
marks_other t k [] = refl
marks_other t k (x ∷ xs) = by (eqb x.entry.mark k) refl (eqb x.entry.time t) refl (marks_other t k xs)
  where
    by : (p : Bool) → eqb x.entry.mark k ≡ p → (q : Bool) → eqb x.entry.time t ≡ q → marks_at t (staying (not_marked k) xs) ≡ other_marks k (marks_at t xs)
        → marks_at t (cond (not p) (x ∷ staying (not_marked k) xs) (staying (not_marked k) xs)) ≡ other_marks k (cond q (x.entry.mark ∷ marks_at t xs) (marks_at t xs))
    by true e true f ih = rw e ih
    by true e false f ih = ih
    by false e true f ih = rw (e, f, ih)
    by false e false f ih = rw (f, ih)

-- ---- one call

-- a refused keep or drop changes nothing
refused : {A : Type 0} (c : Bool) (x y : A) → y ≡ cond (c && false) x y
refused true x y = refl
refused false x y = refl

accepted : (c : Bool) → c ≡ (c && true)
accepted true = refl
accepted false = refl

module _ (st : State) where
  module _ (o : InOrder st) (t : ℕ) where
    abbrev marks : List ℕ
    marks = marks_at t (files_of st)

    pub keep_marks : (u k : ℕ) → marks_at t (files_of (keep_of st u k).state) ≡ cond (eqb u t && not (is_refused (keep_of st u k).outcome)) (k ∷ marks) marks
    unfolding keep_of is_refused
    keep_marks u k = by (first_no (keep_questions st u k)) refl
      where
        by : (n : ℕ) → first_no (keep_questions st u k) ≡ n
            → marks_at t (files_of (keep_of st u k).state) ≡ cond (eqb u t && not (is_refused (keep_of st u k).outcome)) (k ∷ marks) marks
        by zero q =
            rw q
            (ap (marks_at t) (kept_files st o u k (keep_asked st u k q)) ∙ marks_with t (file_at st u k) (files_of st)
            ∙ ap (λ (b : Bool). cond b (k ∷ marks) marks) (accepted (eqb u t)))
        by (suc n) q = rw q (refused (eqb u t) (k ∷ marks) marks)

    pub drop_marks : (u : ℕ) → marks_at t (files_of (drop_of st u).state) ≡ cond (eqb u t && not (is_refused (drop_of st u).outcome)) [] marks
    unfolding drop_of is_refused
    drop_marks u = by (first_no (drop_questions st u)) refl
      where
        by : (n : ℕ) → first_no (drop_questions st u) ≡ n
            → marks_at t (files_of (drop_of st u).state) ≡ cond (eqb u t && not (is_refused (drop_of st u).outcome)) [] marks
        by zero q =
            rw q
            (ap (marks_at t) (left_files st (audited_sound st o.audited) (not_of u)) ∙ marks_without t u (files_of st)
            ∙ ap (λ (b : Bool). cond b [] marks) (accepted (eqb u t)))
        by (suc n) q = rw q (refused (eqb u t) [] marks)

    pub drop-marked_marks : (k : ℕ) → marks_at t (files_of (drop_marked_of st k).state) ≡ cond (is_refused (drop_marked_of st k).outcome) marks (other_marks k marks)
    unfolding drop_marked_of is_refused
    drop-marked_marks k = by (first_no (drop_marked_questions st k)) refl
      where
        by : (n : ℕ) → first_no (drop_marked_questions st k) ≡ n
            → marks_at t (files_of (drop_marked_of st k).state) ≡ cond (is_refused (drop_marked_of st k).outcome) marks (other_marks k marks)
        by zero q = rw q (ap (marks_at t) (left_files st (audited_sound st o.audited) (not_marked k)) ∙ marks_other t k (files_of st))
        by (suc n) q = rw q

    pub step_marks : (c : Call) → marks_at t (files_of (step st c)) ≡ held_next t (marks_at t (files_of st)) st c
    unfolding step held_next
    step_marks (Call.insert u a c) = ap (marks_at t) (files_alike (insert_untouched st u a c))
    step_marks (Call.delete u a) = ap (marks_at t) (files_alike (delete_untouched st u a))
    step_marks (Call.update u a c) = ap (marks_at t) (files_alike (update_untouched st u a c))
    step_marks (Call.position u) = refl
    step_marks (Call.table u out) = refl
    step_marks (Call.view u) = refl
    step_marks (Call.net_change a b out work) = refl
    step_marks (Call.units u) = refl
    step_marks (Call.difference a b) = refl
    step_marks (Call.keep u k) = keep_marks u k
    step_marks (Call.drop u) = drop_marks u
    step_marks (Call.drop_marked k) = drop-marked_marks k
    step_marks Call.audit = refl

-- ---- a list of calls

pub run_marks : (t : ℕ) (st : State) (cs : List Call) → AllFit cs → InOrder st → marks_at t (files_of (run st cs)) ≡ held_after t (marks_at t (files_of st)) st cs
unfolding run AllFit held_after
run_marks t st [] f o = refl
run_marks t st (c ∷ cs) f o =
    run_marks t (step st c) cs f.1 (step_in_order st c f.0 o) ∙ ap (λ (ks : List ℕ). held_after t ks (step st c) cs) (step_marks st o t c)

-- the marks say all that is to be said of the files of a time
held_with : (t : ℕ) (st : State) (due : List ℕ) → marks_at t (files_of st) ≡ due → HeldWith t st due
held_with t st due e =
    let kept : is_kept t (files_of st) ≡ some due = kept-marked t (files_of st) ∙ ap some e in
    record { marks = e; kept = kept; outset = rw (← kept) (kept_iff_held st t) }

-- no file at the start
pub held_since_kept : HeldSinceKept
unfolding files_in marks_at
held_since_kept s cs sf cf e t =
    let st = (begun s).state in
    let none : marks_at t (files_of st) ≡ [] = rw (start_files s e) in
    let marks = run_marks t st cs cf (start_audited s sf e) ∙ ap (λ (ks : List ℕ). held_after t ks st cs) none in
    held_with t (left s cs) (held_after t [] st cs) marks
