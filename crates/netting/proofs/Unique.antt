-- A well-formed list that leads from one ascending table to another is their net change: the form leaves no choice.
-- Assumes nothing.
use Prim.Native.Nat.{ℕ, zero, suc, ◌+◌, ◌≤◌}
use mathlib.Core.Path.{◌≡◌, refl, sym, ◌∙◌}
use mathlib.Core.List.{List, [], ◌∷◌}
use mathlib.Core.Bool.{Bool, true, false, ◌||◌, false≢true}
use native.Mathlib.Omega.{arith}
use lib.ListN.{length}
use borrow.Author.Tests.{eq-eqb}
use Rattle.model.specs.Rows.{Row, same_row, lacks, has_row, Ascending}
use Rattle.model.specs.NetChange.{Change, inserts, deletes, legal_on, with_change, leads, net_change}
use Rattle.model.proofs.Compare.{Compared, less, same, more, compared, and_left, and_right}
use Rattle.model.proofs.RowLaws.{asc_no_row}
use Rattle.model.proofs.RowSets.{same_rows_true, same-row_true}
use Rattle.netting.specs.Form.{From, WellFormed, Merged}
use Rattle.netting.proofs.Arranging.{from_weak}
use Rattle.netting.proofs.Leading.{leads_keeps}
use Rattle.netting.proofs.Merging.{merged_net}
use Rattle.netting.proofs.Netting.{delete_first, insert_first}

pub well_formed_from : {lo : ℕ} {cs : List Change} → WellFormed lo cs → From lo cs
unfolding From
well_formed_from WellFormed.none = tt
well_formed_from {lo} (WellFormed.deletion {cs = cs} r l w) = (l, from_weak lo (suc r.article) cs (omega arith) (well_formed_from w))
well_formed_from {lo} (WellFormed.insertion {cs = cs} r l w) = (l, from_weak lo (suc r.article) cs (omega arith) (well_formed_from w))
well_formed_from {lo} (WellFormed.recount {cs = cs} r q l e n w) = (l, (omega arith, from_weak lo (suc r.article) cs (omega arith) (well_formed_from w)))

-- ---- the first entry

module _ (c : Change) (cs : List Change) (A B : List Row) (e : leads (c ∷ cs) A B ≡ true) where
  first-legal : legal_on A c ≡ true
  unfolding leads
  first-legal = and_left (legal_on A c) (leads cs (with_change A c) B) e

  rest-leads : leads cs (with_change A c) B ≡ true
  unfolding leads
  rest-leads = and_right (legal_on A c) (leads cs (with_change A c) B) e

-- no row below a table is deleted from it
none_below : (r : Row) (cs : List Change) (A B : List Row) → Ascending (suc r.article) A → leads (deletes r ∷ cs) A B ≡ true → ⊥
unfolding legal_on
none_below r cs A B h e = false≢true (sym (asc_no_row (suc r.article) r A h (omega arith)) ∙ first-legal (deletes r) cs A B e)

-- no article that is there is inserted
none-twice : (r a : Row) (cs : List Change) (A B : List Row) → a.article ≡ r.article → leads (inserts r ∷ cs) (a ∷ A) B ≡ true → ⊥
unfolding legal_on lacks
none-twice r a cs A B k e = false≢true (rw (eq-eqb a.article r.article k) at (first-legal (inserts r) cs (a ∷ A) B e))

-- a deletion of the first row's article deletes that row
that_row : (r a : Row) (cs : List Change) (A B : List Row) → a.article ≡ r.article → Ascending (suc a.article) A → leads (deletes r ∷ cs) (a ∷ A) B ≡ true → a ≡ r
unfolding legal_on has_row
that_row r a cs A B k h e = same-row_true a r (by (same_row a r) (has_row r A) (asc_no_row (suc a.article) r A h (omega arith)) (first-legal (deletes r) cs (a ∷ A) B e))
  where
    by : (s t : Bool) → t ≡ false → (s || t) ≡ true → s ≡ true
    by true t f g = refl
    by false t f g = absurd (false≢true (sym f ∙ g))

-- ---- read side by side

-- what is to be shown of at most n rows and entries
abbrev Led : ℕ → Type 0
Led n = (lo : ℕ) (A B : List Row) (cs : List Change) → WellFormed lo cs → length A + length cs ≤ n → Ascending lo A → leads cs A B ≡ true → Merged lo A B cs

module _ (n : ℕ) (rest : Led n) where
  -- the first row stays
  stays : (lo : ℕ) (a : Row) (A B : List Row) {cs : List Change} → WellFormed (suc a.article) cs → length A + length cs ≤ n → lo ≤ a.article
      → Ascending (suc a.article) A → leads cs (a ∷ A) B ≡ true → Merged lo (a ∷ A) B cs
  stays lo a A B {cs} w l k h e =
      let g = leads_keeps a cs A B (well_formed_from w) e in
      rw g.1.0 (Merged.kept a k (rest _ A g.0 cs w l h g.1.1))

  -- an insertion goes in front
  comes : (lo : ℕ) (r : Row) (A B : List Row) {cs : List Change} → WellFormed (suc r.article) cs → length A + length cs ≤ n → lo ≤ r.article
      → Ascending (suc r.article) A → leads (inserts r ∷ cs) A B ≡ true → Merged lo A B (inserts r ∷ cs)
  comes lo r A B {cs} w l k h e =
      let f : leads cs (r ∷ A) B ≡ true = rw (insert_first r A h).1 at (rest-leads (inserts r) cs A B e) in
      let g = leads_keeps r cs A B (well_formed_from w) f in
      rw g.1.0 (Merged.come r k (rest _ A g.0 cs w l h g.1.1))

  -- the first row is deleted
  goes : (lo : ℕ) (a r : Row) (A B : List Row) {cs : List Change} → a ≡ r → WellFormed (suc r.article) cs → length A + length cs ≤ n → lo ≤ r.article
      → Ascending (suc r.article) A → leads (deletes r ∷ cs) (a ∷ A) B ≡ true → Merged lo (a ∷ A) B (deletes r ∷ cs)
  goes lo a r A B {cs} s w l k h e =
      let e' : leads (deletes r ∷ cs) (r ∷ A) B ≡ true = rw s at e in
      let f : leads cs A B ≡ true = rw (delete_first r A h).1 at (rest-leads (deletes r) cs (r ∷ A) B e') in
      rw s (Merged.gone r k (rest _ A B cs w l h f))

  -- the first row is deleted and one of another count inserted
  changes : (lo : ℕ) (a r q : Row) (A B : List Row) {cs : List Change} → a ≡ r → r.article ≡ q.article → (r.count ≡ q.count → ⊥)
      → WellFormed (suc r.article) cs → length A + length cs ≤ n → lo ≤ r.article → Ascending (suc r.article) A
      → leads (deletes r ∷ (inserts q ∷ cs)) (a ∷ A) B ≡ true → Merged lo (a ∷ A) B (deletes r ∷ (inserts q ∷ cs))
  changes lo a r q A B {cs} s k m w l o h e =
      let e' : leads (deletes r ∷ (inserts q ∷ cs)) (r ∷ A) B ≡ true = rw s at e in
      let f : leads (inserts q ∷ cs) A B ≡ true = rw (delete_first r A h).1 at (rest-leads (deletes r) (inserts q ∷ cs) (r ∷ A) B e') in
      let f' : leads cs (q ∷ A) B ≡ true = rw (insert_first q A (rw k at h)).1 at (rest-leads (inserts q) cs A B f) in
      let g = leads_keeps q cs A B (rw k at (well_formed_from w)) f' in
      rw (s, g.1.0) (Merged.recounted r q o k m (rest _ A g.0 cs w l h g.1.1))

  led-more : {lo : ℕ} (A B : List Row) {cs : List Change} → WellFormed lo cs → length A + length cs ≤ suc n → Ascending lo A → leads cs A B ≡ true → Merged lo A B cs
  unfolding leads Ascending
  led-more [] B WellFormed.none l h e = let k : [] ≡ B = same_rows_true [] B e in rw (← k) Merged.none
  led-more {lo} (a ∷ A) B WellFormed.none l h e = stays lo a A B WellFormed.none (omega arith) h.0 h.1 e
  led-more [] B (WellFormed.deletion {cs = cs} r k w) l h e = absurd (none_below r cs [] B tt e)
  led-more {lo} (a ∷ A) B (WellFormed.deletion {cs = cs} r k w) l h e = by (compared a.article r.article)
    where
      by : Compared a.article r.article → Merged lo (a ∷ A) B (deletes r ∷ cs)
      by (less g) = stays lo a A B (WellFormed.deletion {lo = suc a.article} r g w) (omega arith) h.0 h.1 e
      by (same g) = goes lo a r A B (that_row r a cs A B g h.1 e) w (omega arith) k (rw g at h.1) e
      by (more g) = absurd (none_below r cs (a ∷ A) B (g, h.1) e)
  led-more {lo} [] B (WellFormed.insertion r k w) l h e = comes lo r [] B w (omega arith) k tt e
  led-more {lo} (a ∷ A) B (WellFormed.insertion {cs = cs} r k w) l h e = by (compared a.article r.article)
    where
      by : Compared a.article r.article → Merged lo (a ∷ A) B (inserts r ∷ cs)
      by (less g) = stays lo a A B (WellFormed.insertion {lo = suc a.article} r g w) (omega arith) h.0 h.1 e
      by (same g) = absurd (none-twice r a cs A B g e)
      by (more g) = comes lo r (a ∷ A) B w (omega arith) k (g, h.1) e
  led-more [] B (WellFormed.recount {cs = cs} r q k i n' w) l h e = absurd (none_below r (inserts q ∷ cs) [] B tt e)
  led-more {lo} (a ∷ A) B (WellFormed.recount {cs = cs} r q k i n' w) l h e = by (compared a.article r.article)
    where
      by : Compared a.article r.article → Merged lo (a ∷ A) B (deletes r ∷ (inserts q ∷ cs))
      by (less g) = stays lo a A B (WellFormed.recount {lo = suc a.article} r q g i n' w) (omega arith) h.0 h.1 e
      by (same g) = changes lo a r q A B (that_row r a (inserts q ∷ cs) A B g h.1 e) i n' w (omega arith) k (rw g at h.1) e
      by (more g) = absurd (none_below r (inserts q ∷ cs) (a ∷ A) B (g, h.1) e)

led_none : {lo : ℕ} (A B : List Row) {cs : List Change} → WellFormed lo cs → length A + length cs ≤ 0 → leads cs A B ≡ true → Merged lo A B cs
unfolding leads
led_none [] B WellFormed.none l e = let k : [] ≡ B = same_rows_true [] B e in rw (← k) Merged.none
led_none [] B (WellFormed.deletion r k w) l e = absurd (omega arith)
led_none [] B (WellFormed.insertion r k w) l e = absurd (omega arith)
led_none [] B (WellFormed.recount r q k i n w) l e = absurd (omega arith)
led_none (a ∷ A) B w l e = absurd (omega arith)

led : (n : ℕ) → Led n
led zero = λ lo A B cs w l h e. led_none A B w l e
led (suc n) = λ lo A B cs w l h e. led-more n (led n) A B w l h e

-- ---- the theorem

-- a well-formed list that leads from A to B is their net change
pub net_unique : (A B : List Row) (cs : List Change) → Ascending 0 A → WellFormed 0 cs → leads cs A B ≡ true → cs ≡ net_change A B
net_unique A B cs h w e = sym (merged_net (led (length A + length cs) 0 A B cs w (omega arith) h e))
