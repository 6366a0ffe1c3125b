-- The words of each node of the packed tree over page times, as times of records, and an index that holds them.
-- Assumes nothing.
use Prim.Native.Nat.{ℕ, zero, suc, ◌+◌, ◌-◌, ◌*◌, ◌^◌, ◌≤◌, ◌<◌, zero-le, suc-le-suc}
use mathlib.Core.Path.{◌≡◌, refl, sym, ap, ◌∙◌}
use mathlib.Core.Logic.{⊎_elim}
use mathlib.Core.List.{List, [], ◌∷◌, map}
use mathlib.Core.Bool.{true}
use native.Mathlib.Omega.{arith}
use native.Mathlib.Nat.{mul-le-mul_right, mul-le-mul_left, one-le-pow}
use lib.ListN.{length, get_or, take, drop, length-append, length-map, get_or-eq_default}
use lib.Seq.{get_or-take, get_or-drop}
use borrow.Author.Tests.{lt-ltb, le-ltb}
use Rattle.model.specs.Records.{no_record, records, record_in}
use Rattle.model.specs.Shape.{opens, valuation, leaves_of, leaf_words, inner_words, separator, takers}
use Rattle.model.specs.Pages.{page_times}
use Rattle.model.proofs.RecordLaws.{length-records, get_d_records}
use Rattle.model.proofs.PageLaws.{page_time_at, page_of_records, records_of_page}
use Rattle.tree.proofs.Orders.{le_or_lt}
use Rattle.tree.proofs.Hosts.{start, valuation-at}
use Rattle.tree.proofs.Takers.{opens-start, takers_get, takers-length, takers_more}
use Rattle.tree.proofs.Leaves.{leaf_there, leaves-low}
use Rattle.tree.proofs.Packings.{get_d_padded, get_d_map}
use Rattle.tree_audit.specs.Times.{time_in, TimesAt}

-- ---- lists word by word

pub same_words : (xs ys : List ℕ) → length xs ≡ length ys → ((i : ℕ) → i < length ys → get_or xs i 0 ≡ get_or ys i 0) → xs ≡ ys
same_words [] [] l h = refl
same_words [] (y ∷ ys) l h = absurd (omega arith)
same_words (x ∷ xs) [] l h = absurd (omega arith)
same_words (x ∷ xs) (y ∷ ys) l h =
    let e : x ≡ y = h 0 (suc-le-suc zero-le) in
    let t : xs ≡ ys = same_words xs ys (omega arith) (λ i p. h (suc i) (suc-le-suc p)) in
    cc

pub word_at : (a w : ℕ) (xs : List ℕ) (i : ℕ) → i < w → get_or (take w (drop a xs)) i 0 ≡ get_or xs (a + i) 0
word_at a w xs i l = get_or-take w (drop a xs) i 0 l ∙ get_or-drop a xs i 0

-- ---- times

pub time_there : (b : List ℕ) (stop k : ℕ) → k < stop → time_in b stop k ≡ (record_in b k).time
unfolding time_in
time_there b stop k h = rw (lt-ltb k stop h)

pub time_past : (b : List ℕ) (stop k : ℕ) → stop ≤ k → time_in b stop k ≡ 0
unfolding time_in
time_past b stop k h = rw (le-ltb k stop h)

module _ (N : ℕ) (some : 1 ≤ N) (b : List ℕ) (n : ℕ) where
  abbrev keys : List ℕ
  keys = page_times N (records b n)

  -- key p is the time of record p × N, and past the last key there is none
  pub key_at : (p : ℕ) → get_or keys p 0 ≡ time_in b n (p * N)
  key_at p = ⊎_elim past here (le_or_lt n (p * N))
    where
      here : p * N < n → get_or keys p 0 ≡ time_in b n (p * N)
      here h = page_time_at N some (records b n) p (rw (length-records b n) h) ∙ rw (get_d_records b (p * N) n no_record h) (sym (time_there b n (p * N) h))

      few : n ≤ p * N → length keys ≤ p
      few h = ⊎_elim (λ q. q) (λ q. absurd (omega (arith, page_of_records N some (records b n) p q, length-records b n))) (le_or_lt (length keys) p)

      past : n ≤ p * N → get_or keys p 0 ≡ time_in b n (p * N)
      past h = get_or-eq_default keys 0 (few h) ∙ sym (time_past b n (p * N) h)

  module _ (d : ℕ) (two : 2 ≤ d) where
    -- ---- a leaf

    pub leaf_word : (m i : ℕ) → i < d - 1 → get_or (leaf_words d keys m) i 0 ≡ time_in b n (m * (d - 1) * N + i * N)
    unfolding leaf_words
    leaf_word m i l =
        let e : (m * (d - 1) + i) * N ≡ m * (d - 1) * N + i * N = omega arith in
        get_d_padded (d - 1) (take (d - 1) (drop (m * (d - 1)) keys)) i ∙ word_at (m * (d - 1)) (d - 1) keys i l
        ∙ key_at (m * (d - 1) + i) ∙ ap (time_in b n) e

    -- ---- an inner node

    -- a leaf is there just where its first record is
    pub leaf_is : (m : ℕ) → m * (d - 1) * N < n → m < leaves_of d (length keys)
    leaf_is m h = leaf_there d (length keys) m two (records_of_page N some (records b n) (m * (d - 1)) (rw (length-records b n) h))

    pub leaf_not : (m : ℕ) → n ≤ m * (d - 1) * N → leaves_of d (length keys) ≤ m
    leaf_not m h = ⊎_elim (λ q. q) (λ q. absurd (there q)) (le_or_lt (leaves_of d (length keys)) m)
      where
        there : m < leaves_of d (length keys) → ⊥
        there q =
            let k : m * (d - 1) < length keys = omega (arith, leaves-low d (length keys) two, mul-le-mul_right (d - 1) q) in
            omega (arith, page_of_records N some (records b n) (m * (d - 1)) k, length-records b n)

    -- the separator of leaf q is the key before its first
    separator-is : (q : ℕ) → N ≤ q * (d - 1) * N → q * (d - 1) * N < n → separator d keys q ≡ time_in b (n - N) (q * (d - 1) * N - N)
    separator-is q low h =
        let e : (q * (d - 1) - 1) * N ≡ q * (d - 1) * N - N = before (q * (d - 1)) low in
        key_at (q * (d - 1) - 1) ∙ ap (time_in b n) e
        ∙ time_there b n (q * (d - 1) * N - N) (omega arith) ∙ sym (time_there b (n - N) (q * (d - 1) * N - N) (omega arith))
      where
        before : (k : ℕ) → N ≤ k * N → (k - 1) * N ≡ k * N - N
        before zero l = absurd (omega arith)
        before (suc k) l =
            let e : suc k - 1 ≡ k = omega arith in
            rw e (omega arith)

    module _ (l c : ℕ) (i : ℕ) (fits : i < d - 1) where
      abbrev q : ℕ
      q = start d l c + i * d ^ l

      abbrev leaves : ℕ
      leaves = leaves_of d (length keys)

      low : N ≤ q * (d - 1) * N
      low =
          let pos : 1 ≤ d ^ l = one-le-pow l d (omega arith) in
          let one : 1 ≤ q = omega (arith, mul-le-mul_right {m = 1} {n = c * d + 1} (d ^ l) (omega arith)) in
          let wide : 1 ≤ d - 1 = omega arith in
          let most : 1 ≤ q * (d - 1) = omega (arith, mul-le-mul_left q wide) in
          omega (arith, mul-le-mul_right N most)

      start-here : q * (d - 1) * N < n → get_or (inner_words d keys leaves (start d l c)) i 0 ≡ time_in b (n - N) (q * (d - 1) * N - N)
      unfolding inner_words
      start-here h =
          let g = takers_get d two l c i leaves fits (leaf_is q h) in
          get_d_padded (d - 1) (map (separator d keys) (takers d (start d l c) leaves)) i
          ∙ get_d_map (separator d keys) (takers d (start d l c) leaves) i g.0 ∙ ap (separator d keys) g.1
          ∙ separator-is q low h

      -- no more takers than leaves before
      takers-few : leaves ≤ q → length (takers d (start d l c) leaves) ≤ i
      takers-few h =
          let m = takers_more d two (start d l c) leaves (q - leaves) in
          let e : leaves + (q - leaves) ≡ q = omega arith in
          let g : length (takers d (start d l c) (leaves + (q - leaves))) ≡ length (takers d (start d l c) leaves) + length m.0 =
          ap length m.1 ∙ length-append (takers d (start d l c) leaves) m.0 in
          omega (arith, rw e at g, takers-length d two l c i (omega arith))

      start-past : n ≤ q * (d - 1) * N → get_or (inner_words d keys leaves (start d l c)) i 0 ≡ time_in b (n - N) (q * (d - 1) * N - N)
      unfolding inner_words
      start-past h =
          get_d_padded (d - 1) (map (separator d keys) (takers d (start d l c) leaves)) i
          ∙ get_or-eq_default (map (separator d keys) (takers d (start d l c) leaves)) 0 (rw (length-map (takers d (start d l c) leaves) (separator d keys)) (takers-few (leaf_not q h)))
          ∙ sym (time_past b (n - N) (q * (d - 1) * N - N) (omega arith))

      start_word : get_or (inner_words d keys leaves (start d l c)) i 0 ≡ time_in b (n - N) (start d l c * (d - 1) * N - N + i * (d ^ l * (d - 1) * N))
      start_word =
          let first : q * (d - 1) * N ≡ start d l c * (d - 1) * N + i * (d ^ l * (d - 1) * N) = omega arith in
          let pos : 1 ≤ d ^ l = one-le-pow l d (omega arith) in
          let one : 1 ≤ start d l c = omega (arith, mul-le-mul_right {m = 1} {n = c * d + 1} (d ^ l) (omega arith)) in
          let wide : 1 ≤ d - 1 = omega arith in
          let most : 1 ≤ start d l c * (d - 1) = omega (arith, mul-le-mul_left (start d l c) wide) in
          let e : q * (d - 1) * N - N ≡ start d l c * (d - 1) * N - N + i * (d ^ l * (d - 1) * N) = omega (arith, mul-le-mul_right N most) in
          ⊎_elim start-past start-here (le_or_lt n (q * (d - 1) * N)) ∙ ap (time_in b (n - N)) e

    pub inner_word : (m i : ℕ) → opens d m ≡ true → i < d - 1
        → get_or (inner_words d keys (leaves_of d (length keys)) m) i 0 ≡ time_in b (n - N) (m * (d - 1) * N - N + i * (d ^ valuation d m * (d - 1) * N))
    inner_word m i o fits =
        let at = opens-start d two m o in
        let l = at.0 in
        let c = at.1.0 in
        let v : valuation d (start d l c) ≡ l = valuation-at d two l c 0 (omega arith) in
        rw (at.1.1, v) (start_word l c i fits)

-- ---- one word more

pub times_none : (b : List ℕ) (first step stop : ℕ) (words : List ℕ) (at : ℕ) → TimesAt b first step stop words at 0
times_none b first step stop words at i l = absurd (omega arith)

pub times_more : (b : List ℕ) (first step stop : ℕ) (words : List ℕ) (at w : ℕ) → TimesAt b first step stop words at w
    → get_or words (at + w) 0 ≡ time_in b stop (first + w * step) → TimesAt b first step stop words at (w + 1)
times_more b first step stop words at w h e i l = ⊎_elim last (λ q. h i q) (le_or_lt w i)
  where
    last : w ≤ i → get_or words (at + i) 0 ≡ time_in b stop (first + i * step)
    last q =
        let z : i ≡ w = omega arith in
        rw z e
