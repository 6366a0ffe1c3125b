-- The separators of one node in order: its takers, at most d - 1 of them, the one that opened it first. No node
-- numbers. Assumes nothing.
use Prim.Native.Nat.{ℕ, zero, suc, ◌+◌, ◌-◌, ◌*◌, ◌^◌, ◌≤◌, ◌<◌, zero-le, suc-le-suc}
use mathlib.Core.Path.{◌≡◌, refl, sym, ap, ◌∙◌, subst}
use mathlib.Core.List.{List, [], ◌∷◌, ◌++◌, append-nil, append_assoc}
use mathlib.Core.Bool.{true, false, cond}
use native.Mathlib.Omega.{arith}
use native.Mathlib.Nat.{le_refl, mul-le-mul_right, lt_of_mul-lt-mul_right, one-le-pow, add-zero, add-suc, zero-add, add_comm, mul-lt-mul_of_pos_right}
use lib.Seq.{get_or_at}
use lib.ListN.{length, get_or, length-append}
use lib.Dec.{eqb}
use borrow.Author.Tests.{eqb-true, eq-eqb, ne_eqb}
use Rattle.model.specs.Shape.{valuation, cofactor, opens, host, takers}
use Rattle.tree.specs.Append.{slot}
use Rattle.tree.proofs.Valuations.{cofactor_pow}
use Rattle.tree.proofs.Hosts.{start, host_le, digit, odd, valuation-at, opens_at, host-at, opens-none, place}

module _ (d : ℕ) (two : 2 ≤ d) where
  pub takers-nil : (m : ℕ) → takers d m 0 ≡ []
  unfolding takers
  takers-nil m = refl

  pub takers-none : (m n : ℕ) → (host d n ≡ m → ⊥) → takers d m (suc n) ≡ takers d m n
  unfolding takers
  takers-none m n h = rw (ne_eqb (host d n) m h) (append-nil (takers d m n))

  pub takers_one : (m n : ℕ) → host d n ≡ m → takers d m (suc n) ≡ takers d m n ++ (n ∷ [])
  unfolding takers
  takers_one m n e = rw (eq-eqb (host d n) m e)

  takers-skip : (m n k : ℕ) → ((y : ℕ) → n ≤ y → y < n + k → host d y ≡ m → ⊥) → takers d m (n + k) ≡ takers d m n
  takers-skip m n zero h = rw add-zero
  takers-skip m n (suc k) h = rw add-suc (takers-none m (n + k) (h (n + k) (omega arith) (omega arith)) ∙ takers-skip m n k (λ y p q. h y p (omega arith)))

  pub takers-before : (m n : ℕ) → n ≤ m → takers d m n ≡ []
  takers-before m n l = rw zero-add at (takers-skip m 0 n (λ y p q e. omega (arith, host_le d two y))) ∙ takers-nil m

  pub takers_more : (m n k : ℕ) → (ys : List ℕ) × (takers d m (n + k) ≡ takers d m n ++ ys)
  unfolding takers
  takers_more m n zero = ([], rw (add-zero, append-nil))
  takers_more m n (suc k) =
      let ih = takers_more m n k in
      (ih.0 ++ cond (eqb (host d (n + k)) m) ((n + k) ∷ []) [], rw (add-suc, ih.1) (append_assoc (takers d m n) ih.0 _))

  module _ (l b : ℕ) where
    pos : 0 < d ^ l
    pos = one-le-pow l d (omega arith)

    -- its hosts are the leaves i * d ^ l further on
    pub taker_is : (y : ℕ) → host d y ≡ start d l b → (i : ℕ) × ((i < d - 1) × (y ≡ start d l b + i * d ^ l))
    taker_is zero e = absurd (omega (arith, host_le d two 0, mul-le-mul_right {m = 1} {n = b * d + 1} (d ^ l) (omega arith), pos))
    taker_is (suc y) e =
        let pl = place d two (suc y) (suc-le-suc zero-le) in
        let h : start d pl.level pl.block ≡ start d l b = sym (host-at d two pl.level pl.block pl.slot pl.fits) ∙ ap (host d) (sym pl.is) ∙ e in
        let lv : pl.level ≡ l = sym (valuation-at d two pl.level pl.block 0 (omega arith)) ∙ ap (valuation d) h ∙ valuation-at d two l b 0 (omega arith) in
        (pl.slot, (pl.fits, omega (arith, rw lv at pl.is, rw lv at h)))

    pub taker_at : (i : ℕ) → i < d - 1 → host d (start d l b + i * d ^ l) ≡ start d l b
    taker_at i h =
        let e : start d l b + i * d ^ l ≡ (b * d + suc i) * d ^ l = omega arith in
        rw e (host-at d two l b i h)

    -- as many as there are before leaf i
    pub takers-length : (i : ℕ) → i ≤ d - 1 → length (takers d (start d l b) (start d l b + i * d ^ l)) ≡ i
    takers-length zero h =
        let n : start d l b + 0 * d ^ l ≡ start d l b = omega arith in
        rw (n, takers-before (start d l b) (start d l b) (le_refl (start d l b)))
    takers-length (suc i) h =
        let s = start d l b in
        let n : s + suc i * d ^ l ≡ suc (s + i * d ^ l) + (d ^ l - 1) = omega (arith, pos) in
        let e = takers-skip s (suc (s + i * d ^ l)) (d ^ l - 1) (λ y p q z. between i y p (omega arith) (taker_is y z)) in
        rw (n, e, takers_one s (s + i * d ^ l) (taker_at i h), length-append) (omega (arith, takers-length i (omega arith)))
      where
        between : (i y : ℕ) → suc (start d l b + i * d ^ l) ≤ y → y < start d l b + suc i * d ^ l → (j : ℕ) × ((j < d - 1) × (y ≡ start d l b + j * d ^ l)) → ⊥
        between i y p q t =
            let low : i < t.0 = lt_of_mul-lt-mul_right (d ^ l) (omega (arith, t.1.1)) in
            let high : t.0 < suc i = lt_of_mul-lt-mul_right (d ^ l) (omega (arith, t.1.1)) in
            omega arith

    -- and no more than a node has words
    pub takers_fit : (n : ℕ) → length (takers d (start d l b) n) ≤ d - 1
    takers_fit n =
        let s = start d l b in
        let full : ℕ = s + (d - 1) * d ^ l in
        let e : takers d s (full + n) ≡ takers d s full = takers-skip s full n (λ y p q z. past y p (taker_is y z)) in
        let f = ap length e ∙ takers-length (d - 1) (le_refl (d - 1)) in
        let m = takers_more s n full in
        let g : length (takers d s (n + full)) ≡ length (takers d s n) + length m.0 = rw m.1 (length-append (takers d s n) m.0) in
        omega (arith, f, g, ap (λ (k : ℕ). length (takers d s k)) (add_comm n full))
      where
        past : (y : ℕ) → start d l b + (d - 1) * d ^ l ≤ y → (j : ℕ) × ((j < d - 1) × (y ≡ start d l b + j * d ^ l)) → ⊥
        past y p t = omega (arith, t.1.1, mul-lt-mul_of_pos_right t.1.0 pos)

    -- the one at slot i
    pub takers_get : (i n : ℕ) → i < d - 1 → start d l b + i * d ^ l < n → (i < length (takers d (start d l b) n)) × (get_or (takers d (start d l b) n) i 0 ≡ start d l b + i * d ^ l)
    takers_get i n h k =
        let s = start d l b in
        let m : ℕ = s + i * d ^ l in
        let e : suc m + (n - suc m) ≡ n = omega arith in
        let r = takers_more s (suc m) (n - suc m) in
        let all : takers d s n ≡ takers d s m ++ (m ∷ r.0) =
        ap (takers d s) (sym e) ∙ r.1 ∙ ap (λ (ys : List ℕ). ys ++ r.0) (takers_one s m (taker_at i h)) ∙ append_assoc (takers d s m) (m ∷ []) r.0 in
        let len = takers-length i (omega arith) in
        (rw (all, length-append) (omega (arith, len)), rw all (get_or_at (takers d s m) m r.0 0 i len))

  -- ---- the separator of leaf n

  pub record Hosted (n : ℕ) : Type 0 where
    pub is : host d n + slot d n * d ^ valuation d n ≡ n
    pub opened_by : opens d (host d n) ≡ true
    pub filled : length (takers d (host d n) n) ≡ slot d n
    pub fits : slot d n < d - 1
    pub itself : opens d n ≡ true → host d n ≡ n
    pub other : opens d n ≡ false → host d n < n

  cofactor-at : (l b i : ℕ) → i < d - 1 → cofactor d ((b * d + suc i) * d ^ l) ≡ b * d + suc i
  cofactor-at l b i h = cofactor_pow d two (b * d + suc i) (odd d two l b i h) l

  pub slot_at : (l b i : ℕ) → i < d - 1 → slot d ((b * d + suc i) * d ^ l) ≡ i
  unfolding slot
  slot_at l b i h = rw (cofactor-at l b i h, digit d two l b i h) (omega arith)

  hosted-at : (l b i : ℕ) → i < d - 1 → Hosted ((b * d + suc i) * d ^ l)
  unfolding opens
  hosted-at l b i h =
      let n : ℕ = (b * d + suc i) * d ^ l in
      let e : n ≡ start d l b + i * d ^ l = omega arith in
      let k = host-at d two l b i h in
      let s = slot_at l b i h in
      record {
        is = rw (k, s, valuation-at d two l b i h) (omega arith);
        opened_by = rw k (opens_at d two l b);
        filled = rw (k, s) (ap (λ (m : ℕ). length (takers d (start d l b) m)) e ∙ takers-length l b i (omega arith));
        fits = rw s h;
        itself = λ o. rw k (first i h o);
        other = λ o. rw k (later i h o);
      }
    where
      first : (i : ℕ) → i < d - 1 → opens d ((b * d + suc i) * d ^ l) ≡ true → start d l b ≡ (b * d + suc i) * d ^ l
      first i h o =
          let z : suc i ≡ 1 = eqb-true _ _ (rw (cofactor-at l b i h, digit d two l b i h) at o) in
          rw z

      later : (i : ℕ) → i < d - 1 → opens d ((b * d + suc i) * d ^ l) ≡ false → start d l b < (b * d + suc i) * d ^ l
      later zero h o = absurd (let z : ◌≡◌ {A = ℕ} 0 1 = cc (opens_at d two l b) in omega arith)
      later (suc i) h o = omega (arith, pos l b)

  pub hosted : (n : ℕ) → 0 < n → Hosted n
  hosted n p =
      let pl = place d two n p in
      subst Hosted (sym pl.is) (hosted-at pl.level pl.block pl.slot pl.fits)

  -- a leaf that opens a node is the first of its takers
  pub opens-start : (m : ℕ) → opens d m ≡ true → (l : ℕ) × ((b : ℕ) × (m ≡ start d l b))
  opens-start zero o = absurd (let z : ◌≡◌ {A = ℕ} 0 1 = cc (opens-none d two) in omega arith)
  opens-start (suc m) o =
      let p = suc-le-suc zero-le in
      let pl = place d two (suc m) p in
      (pl.level, (pl.block, sym ((hosted (suc m) p).itself o) ∙ ap (host d) pl.is ∙ host-at d two pl.level pl.block pl.slot pl.fits))
