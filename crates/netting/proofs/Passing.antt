-- One step of a merge on ascending rows: which of the first rows are passed, and what entries that gives. Assumes nothing.
use Prim.Native.Nat.{ℕ, zero, suc, ◌+◌, ◌*◌, ◌-◌, ◌/◌, ◌≤◌, ◌<◌}
use mathlib.Core.Path.{◌≡◌, refl, sym, ap, ◌∙◌}
use mathlib.Core.Logic.{◌⊎◌, inl, inr}
use mathlib.Core.List.{List, [], ◌∷◌, ◌++◌, append_assoc, append-nil}
use native.Mathlib.Omega.{arith}
use native.Mathlib.Numerals.{add-one}
use native.Mathlib.Nat.{mul-add}
use lib.ListN.{length, drop, length-append, length-replicate, drop_of_length-le}
use lib.Seq.{drop-cons, drop-length}
use Rattle.codec.specs.Parts.{put, zeros}
use Rattle.codec.proofs.PartLaws.{take-put_end, length-put}
use Rattle.model.specs.Rows.{Row, row, Ascending, rows_bytes, table_bytes}
use Rattle.model.specs.NetChange.{Change, inserts, deletes, change_bytes, changes_bytes, missing, arranged, net_change}
use Rattle.model.proofs.RowLaws.{row_eq, asc_weak}
use Rattle.rows.specs.Table.{article_at, count_at, row_at}
use Rattle.rows.proofs.TableBytes.{length_rows_bytes, article_table, count_at-table}
use Rattle.netting.specs.Form.{Merged}
use Rattle.netting.specs.Merge.{change_at, RowsAre, Head, Passed, Passes, Merges}
use Rattle.netting.proofs.Merging.{merged, merged_net}
use Rattle.netting.proofs.ChangeBytes.{length-changes-bytes}

-- ---- the rows not yet passed

asc_drop : (lo i : ℕ) (T : List Row) → Ascending lo T → Ascending lo (drop i T)
unfolding Ascending
asc_drop lo zero T h = h
asc_drop lo (suc i) [] h = tt
asc_drop lo (suc i) (x ∷ T) h = asc_weak lo (suc x.article) (drop i T) (omega arith) (asc_drop (suc x.article) i T h.1)

-- rows and nothing else are a table that is full
full-table : (T : List Row) → rows_bytes T ≡ table_bytes (length T) T
unfolding table_bytes
full-table T =
    let e : 8 * length T - 8 * length T ≡ 0 = omega arith in
    sym (rw e (append-nil (rows_bytes T)))

module _ (T : List Row) (xs : List ℕ) (rows : RowsAre T xs) (i : ℕ) (within : i < length T) where
  pub article_read : article_at xs i ≡ (row_at T i).article
  article_read = rw (rows.bytes_are, full-table T) (article_table (length T) T rows.small i within)

  pub count_read : count_at xs i ≡ (row_at T i).count
  count_read = rw (rows.bytes_are, full-table T) (count_at-table (length T) T rows.small i within)

  -- row i is the first of those not yet passed, and the others come after it
  first-left : drop i T ≡ row_at T i ∷ drop (suc i) T
  first-left = drop-cons T i (row 0 0) within

  asc-behind : Ascending (suc (row_at T i).article) (drop (suc i) T)
  unfolding Ascending
  asc-behind = let h : Ascending 0 (row_at T i ∷ drop (suc i) T) = rw first-left at (asc_drop 0 i T rows.ascending) in h.1

  asc-ahead : (x : ℕ) → x < article_at xs i → Ascending (suc x) (drop i T)
  unfolding Ascending
  asc-ahead x h = rw first-left (omega (arith, article_read), asc-behind)

-- the rows of a table not yet passed, of n rows in all, are none or begin with an article above x
abbrev pub Above : ℕ → List ℕ → ℕ → ℕ → Type 0
Above x xs n j = (j ≡ n) ⊎ ((j < n) × (x < article_at xs j))

-- the smaller of two heads stands, and the other table has nothing up to it
pub head_smaller : {a b : List ℕ} {i m j n x y : ℕ} → Head a i m x → Head b j n y → x < y → (i < m) × Above (article_at a i) b n j
head_smaller (Head.ended h e) (Head.ended g f) l = absurd (omega arith)
head_smaller (Head.ended h e) (Head.stands g k f) l = absurd (omega arith)
head_smaller (Head.stands h k e) (Head.ended g f) l = (h, inl g)
head_smaller (Head.stands h k e) (Head.stands g o f) l = (h, inr (g, omega arith))

-- equal heads both stand, unless nothing is left
pub head_same : {a b : List ℕ} {i m j n x y : ℕ} → Head a i m x → Head b j n y → x ≡ y → i + j < m + n → (i < m) × ((j < n) × (article_at a i ≡ article_at b j))
head_same (Head.ended h e) (Head.ended g f) q l = absurd (omega arith)
head_same (Head.ended h e) (Head.stands g k f) q l = absurd (omega arith)
head_same (Head.stands h k e) (Head.ended g f) q l = absurd (omega arith)
head_same (Head.stands h k e) (Head.stands g o f) q l = (h, (g, sym e ∙ q ∙ f))

asc_above : (T : List Row) (xs : List ℕ) → RowsAre T xs → (x n j : ℕ) → length T ≡ n → Above x xs n j → Ascending (suc x) (drop j T)
unfolding Ascending
asc_above T xs rows x n j l (inl e) = let none : drop j T ≡ [] = ap (λ (k : ℕ). drop k T) (e ∙ sym l) ∙ drop-length T in rw none tt
asc_above T xs rows x n j l (inr h) = asc-ahead T xs rows j (omega (arith, h.0)) x h.1

-- ---- the net change of what is left, by its first rows

module _ (A B : List Row) (i j : ℕ) where
  net-gone : i < length A → Ascending (suc (row_at A i).article) (drop (suc i) A) → Ascending (suc (row_at A i).article) (drop j B)
      → net_change (drop i A) (drop j B) ≡ deletes (row_at A i) ∷ net_change (drop (suc i) A) (drop j B)
  net-gone l h g = rw (drop-cons A i (row 0 0) l) (merged_net (Merged.gone {lo = 0} (row_at A i) (omega arith) (merged (suc (row_at A i).article) (drop (suc i) A) (drop j B) h g)))

  net-come : j < length B → Ascending (suc (row_at B j).article) (drop i A) → Ascending (suc (row_at B j).article) (drop (suc j) B)
      → net_change (drop i A) (drop j B) ≡ inserts (row_at B j) ∷ net_change (drop i A) (drop (suc j) B)
  net-come l h g = rw (drop-cons B j (row 0 0) l) (merged_net (Merged.come {lo = 0} (row_at B j) (omega arith) (merged (suc (row_at B j).article) (drop i A) (drop (suc j) B) h g)))

  module _ (la : i < length A) (lb : j < length B) (e : (row_at A i).article ≡ (row_at B j).article)
      (h : Ascending (suc (row_at A i).article) (drop (suc i) A)) (g : Ascending (suc (row_at B j).article) (drop (suc j) B)) where
    rest : Merged (suc (row_at A i).article) (drop (suc i) A) (drop (suc j) B) (net_change (drop (suc i) A) (drop (suc j) B))
    rest = merged (suc (row_at A i).article) (drop (suc i) A) (drop (suc j) B) h (asc_weak (suc (row_at A i).article) (suc (row_at B j).article) (drop (suc j) B) (omega arith) g)

    net-kept : (row_at A i).count ≡ (row_at B j).count → net_change (drop i A) (drop j B) ≡ net_change (drop (suc i) A) (drop (suc j) B)
    net-kept f =
        let q : row_at B j ≡ row_at A i = row_eq (sym e) (sym f) in
        rw (drop-cons A i (row 0 0) la, drop-cons B j (row 0 0) lb, q) (merged_net (Merged.kept {lo = 0} (row_at A i) (omega arith) rest))

    net_recounted : ((row_at A i).count ≡ (row_at B j).count → ⊥)
        → net_change (drop i A) (drop j B) ≡ deletes (row_at A i) ∷ (inserts (row_at B j) ∷ net_change (drop (suc i) A) (drop (suc j) B))
    net_recounted f =
        rw (drop-cons A i (row 0 0) la, drop-cons B j (row 0 0) lb) (merged_net (Merged.recounted {lo = 0} (row_at A i) (row_at B j) (omega arith) e f rest))

-- ---- entries behind those that stand

changes-append : (cs ds : List Change) → changes_bytes (cs ++ ds) ≡ changes_bytes cs ++ changes_bytes ds
unfolding changes_bytes
changes-append [] ds = refl
changes-append (c ∷ cs) ds = rw (changes-append cs ds, append_assoc)

module _ {A B : List Row} {i j i' j' k : ℕ} {out : List ℕ} where
  passed_none : Passed A B i j k out → net_change (drop i A) (drop j B) ≡ net_change (drop i' A) (drop j' B) → Passed A B i' j' k out
  passed_none p e =
      record {
        entries = p.entries;
        count_is = p.count_is;
        written = p.written;
        left = ap (λ (l : List Change). p.entries ++ l) (sym e) ∙ p.left;
      }

  passed-more : (cs : List Change) → 12 * k ≤ length out → Passed A B i j k out → net_change (drop i A) (drop j B) ≡ cs ++ net_change (drop i' A) (drop j' B)
      → Passed A B i' j' (k + length cs) (put out (12 * k) (changes_bytes cs))
  passed-more cs room p e =
      let size : 12 * (k + length cs) ≡ 12 * k + length (changes_bytes cs) = rw (length-changes-bytes cs) (mul-add 12 k (length cs)) in
      record {
        entries = p.entries ++ cs;
        count_is = length-append p.entries cs ∙ ap (λ (l : ℕ). l + length cs) p.count_is;
        written = rw size (take-put_end out (12 * k) (changes_bytes cs) room ∙ rw p.written (sym (changes-append p.entries cs)));
        left = append_assoc p.entries cs (net_change (drop i' A) (drop j' B)) ∙ ap (λ (l : List Change). p.entries ++ l) (sym e) ∙ p.left;
      }

one_change : (c : Change) → changes_bytes (c ∷ []) ≡ change_bytes c
unfolding changes_bytes
one_change c = append-nil (change_bytes c)

two-changes : (c d : Change) → changes_bytes (c ∷ (d ∷ [])) ≡ change_bytes c ++ change_bytes d
unfolding changes_bytes
two-changes c d = rw (append-nil (change_bytes d))

-- ---- one step, from what is read

module _ (a b : List ℕ) (m n i j k : ℕ) (out : List ℕ) where
  pub passes_gone : i < m → Above (article_at a i) b n j → 12 * k ≤ length out → Passes a b m n i j k out (i + 1) j (k + 1) (put out (12 * k) (change_bytes (change_at 3 a i)))
  passes_gone l up room =
      record {
        on = λ A B ra rb la lb p.
            let w : i < length A = omega arith in
            let x = article_read A a ra i w in
            rw (x, count_read A a ra i w, add-one i, ← one_change (deletes (row_at A i)))
            (passed-more (deletes (row_at A i) ∷ []) room p (net-gone A B i j w (asc-behind A a ra i w) (rw x at (asc_above B b rb (article_at a i) n j lb up))));
      }

  pub passes_come : j < n → Above (article_at b j) a m i → 12 * k ≤ length out → Passes a b m n i j k out i (j + 1) (k + 1) (put out (12 * k) (change_bytes (change_at 2 b j)))
  passes_come l up room =
      record {
        on = λ A B ra rb la lb p.
            let w : j < length B = omega arith in
            let x = article_read B b rb j w in
            rw (x, count_read B b rb j w, add-one j, ← one_change (inserts (row_at B j)))
            (passed-more (inserts (row_at B j) ∷ []) room p (net-come A B i j w (rw x at (asc_above A a ra (article_at b j) m i la up)) (asc-behind B b rb j w)));
      }

  module _ (l : i < m) (r : j < n) (e : article_at a i ≡ article_at b j) where
    pub passes_kept : count_at a i ≡ count_at b j → Passes a b m n i j k out (i + 1) (j + 1) k out
    passes_kept f =
        record {
          on = λ A B ra rb la lb p.
              let u : i < length A = omega arith in
              let w : j < length B = omega arith in
              rw (add-one i, add-one j)
              (passed_none p (net-kept A B i j u w (sym (article_read A a ra i u) ∙ e ∙ article_read B b rb j w) (asc-behind A a ra i u) (asc-behind B b rb j w) (sym (count_read A a ra i u) ∙ f ∙ count_read B b rb j w)));
        }

    pub passes_recounted : (count_at a i ≡ count_at b j → ⊥) → 12 * k ≤ length out
        → Passes a b m n i j k out (i + 1) (j + 1) (k + 2) (put out (12 * k) (change_bytes (change_at 3 a i) ++ change_bytes (change_at 2 b j)))
    passes_recounted f room =
        record {
          on = λ A B ra rb la lb p.
              let u : i < length A = omega arith in
              let w : j < length B = omega arith in
              let x = article_read A a ra i u in
              let y = article_read B b rb j w in
              let s = count_read A a ra i u in
              let t = count_read B b rb j w in
              rw (x, y, s, t, add-one i, add-one j, ← two-changes (deletes (row_at A i)) (inserts (row_at B j)))
              (passed-more (deletes (row_at A i) ∷ (inserts (row_at B j) ∷ [])) room p
              (net_recounted A B i j u w (sym x ∙ e ∙ y) (asc-behind A a ra i u) (asc-behind B b rb j w) (λ q. f (s ∙ q ∙ sym t))));
        }

-- ---- the whole

pub passed_first : (A B : List Row) (out : List ℕ) → Passed A B 0 0 0 out
unfolding changes_bytes
passed_first A B out = record { entries = []; count_is = refl; written = refl; left = refl }

pub passes_same : {a b : List ℕ} {m n i j k : ℕ} {out : List ℕ} → Passes a b m n i j k out i j k out
passes_same = record { on = λ A B ra rb la lb p. p }

pub passes_then : {a b : List ℕ} {m n i j k i' j' k' i'' j'' k'' : ℕ} {out out' out'' : List ℕ} → Passes a b m n i j k out i' j' k' out' → Passes a b m n i' j' k' out' i'' j'' k'' out''
    → Passes a b m n i j k out i'' j'' k'' out''
passes_then p q = record { on = λ A B ra rb la lb s. q.on A B ra rb la lb (p.on A B ra rb la lb s) }

rows_many : (T : List Row) (xs : List ℕ) → RowsAre T xs → length T ≡ length xs / 8
rows_many T xs rows = omega (arith, ap length rows.bytes_are ∙ length_rows_bytes T)

-- nothing is left, and zeros stand behind the entries
pub merges : (a b : List ℕ) (i j k : ℕ) (out₀ out : List ℕ) → length a / 8 ≤ i → length b / 8 ≤ j → 12 * k ≤ length out
    → Passes a b (length a / 8) (length b / 8) 0 0 0 out₀ i j k out → Merges a b k (put out (12 * k) (zeros (length out - 12 * k)))
unfolding net_change missing arranged
merges a b i j k out₀ out h g room p =
    record {
      on = λ A B ra rb.
          let la = rows_many A a ra in
          let lb = rows_many B b rb in
          let q = p.on A B ra rb la lb (passed_first A B out₀) in
          let none-a : drop i A ≡ [] = drop_of_length-le A {i = i} (omega arith) in
          let none-b : drop j B ≡ [] = drop_of_length-le B {i = j} (omega arith) in
          let whole : q.entries ≡ net_change A B = sym (append-nil q.entries) ∙ rw (none-a, none-b) at q.left in
          let many : k ≡ length (net_change A B) = sym q.count_is ∙ ap length whole in
          let long : length (zeros (length out - 12 * k)) ≡ length out - 12 * k = length-replicate {A = ℕ} (length out - 12 * k) 0 in
          let same : length (put out (12 * k) (zeros (length out - 12 * k))) ≡ length out = length-put out (12 * k) (zeros (length out - 12 * k)) (omega arith) in
          let behind : drop (12 * k + length (zeros (length out - 12 * k))) out ≡ [] = drop_of_length-le out {i = 12 * k + length (zeros (length out - 12 * k))} (omega arith) in
          (many, rw (same, ← many, q.written, behind, whole) (ap (λ (l : List ℕ). changes_bytes (net_change A B) ++ l) (append-nil (zeros (length out - 12 * k)))));
    }
