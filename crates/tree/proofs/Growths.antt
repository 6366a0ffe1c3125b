-- What the nodes hold when one key more is there; no node numbers. Assumes nothing.
use Prim.Native.Nat.{ℕ, zero, suc, ◌+◌, ◌-◌, ◌*◌, ◌≤◌, ◌<◌}
use mathlib.Core.Path.{◌≡◌, refl, sym, ap, ◌∙◌}
use mathlib.Core.List.{List, [], ◌∷◌, ◌++◌, map, append-nil, map-append}
use mathlib.Core.Bool.{Bool, true, false, cond}
use native.Mathlib.Omega.{arith}
use native.Mathlib.Nat.{le_refl, mul-le-mul_right}
use lib.ListN.{length, set, take, drop, length-append, length-drop, length-map, get_or-append}
use lib.Seq.{take-append-le, drop-append-le, take_all, drop_at}
use lib.Dec.{eqb}
use Rattle.model.specs.Shape.{opens, host, padded, leaf_words, separator, takers, inner_words}
use Rattle.tree.specs.Append.{slot}
use Rattle.tree.proofs.Takers.{takers-none, takers_one, takers-before, hosted}
use Rattle.tree.proofs.Parts.{padded_more}

module _ (d : ℕ) (two : 2 ≤ d) (keys : List ℕ) (x : ℕ) where
  -- ---- leaves
  pub leaf_old : (m : ℕ) → m * (d - 1) + (d - 1) ≤ length keys → leaf_words d (keys ++ (x ∷ [])) m ≡ leaf_words d keys m
  unfolding leaf_words
  leaf_old m h = rw (drop-append-le (m * (d - 1)) keys (x ∷ []) (omega arith), take-append-le (d - 1) (drop (m * (d - 1)) keys) (x ∷ []) (rw length-drop (omega arith)))

  pub leaf_more : (m i : ℕ) → m * (d - 1) + i ≡ length keys → i < d - 1 → leaf_words d (keys ++ (x ∷ [])) m ≡ set (leaf_words d keys m) i x
  unfolding leaf_words
  leaf_more m i e h =
      let p = drop (m * (d - 1)) keys in
      let l : length p ≡ i = rw length-drop (omega arith) in
      let all : take (d - 1) (p ++ (x ∷ [])) ≡ p ++ (x ∷ []) = take_all (d - 1) (p ++ (x ∷ [])) (rw length-append (omega arith)) in
      rw (drop-append-le (m * (d - 1)) keys (x ∷ []) (omega arith), all, take_all (d - 1) p (omega arith)) (padded_more (d - 1) x p (omega arith) ∙ ap (λ (n : ℕ). set (padded (d - 1) p) n x) l)

  pub leaf_new : (m : ℕ) → m * (d - 1) ≡ length keys → leaf_words d (keys ++ (x ∷ [])) m ≡ padded (d - 1) (x ∷ [])
  unfolding leaf_words
  leaf_new m e = rw (drop_at keys (x ∷ []) (m * (d - 1)) (sym e), take_all (d - 1) (x ∷ []) (omega arith))

  -- ---- separators
  pub separator_old : (m : ℕ) → m * (d - 1) - 1 < length keys → separator d (keys ++ (x ∷ [])) m ≡ separator d keys m
  separator_old m h = get_or-append keys (x ∷ []) 0 (m * (d - 1) - 1) h

  separators-old : (m n : ℕ) → ((y : ℕ) → y < n → y * (d - 1) < length keys) → map (separator d (keys ++ (x ∷ []))) (takers d m n) ≡ map (separator d keys) (takers d m n)
  unfolding takers
  separators-old m zero h = refl
  separators-old m (suc n) h = by (eqb (host d n) m) (separators-old m n (λ y l. h y (omega arith))) (separator_old n (omega (arith, h n (le_refl (suc n)))))
    where
      by : (c : Bool) → map (separator d (keys ++ (x ∷ []))) (takers d m n) ≡ map (separator d keys) (takers d m n) → separator d (keys ++ (x ∷ [])) n ≡ separator d keys n
          → map (separator d (keys ++ (x ∷ []))) (takers d m n ++ cond c (n ∷ []) []) ≡ map (separator d keys) (takers d m n ++ cond c (n ∷ []) [])
      by true ih e = rw (map-append _ (takers d m n) (n ∷ []), map-append _ (takers d m n) (n ∷ []), ih, e)
      by false ih e = rw (append-nil, ih)

  -- ---- inner nodes
  pub inner_old : (m n : ℕ) → ((y : ℕ) → y < n → y * (d - 1) < length keys) → inner_words d (keys ++ (x ∷ [])) n m ≡ inner_words d keys n m
  unfolding inner_words
  inner_old m n h = rw (separators-old m n h)

  -- leaf n is new
  module _ (n : ℕ) (full : n * (d - 1) ≡ length keys) where
    all_there : (y : ℕ) → y < n → y * (d - 1) < length keys
    all_there y l = omega (arith, mul-le-mul_right (d - 1) l)

    pub inner_skip : (m : ℕ) → (host d n ≡ m → ⊥) → inner_words d (keys ++ (x ∷ [])) (suc n) m ≡ inner_words d keys n m
    unfolding inner_words
    inner_skip m h = rw (takers-none d two m n h, separators-old m n all_there)

    module _ (pos : 0 < n) where
      separator-new : separator d (keys ++ (x ∷ [])) n ≡ separator d keys n
      separator-new = separator_old n (omega (arith, mul-le-mul_right (d - 1) pos))

      pub inner_more : inner_words d (keys ++ (x ∷ [])) (suc n) (host d n) ≡ set (inner_words d keys n (host d n)) (slot d n) (separator d keys n)
      unfolding inner_words
      inner_more =
          let ts = takers d (host d n) n in
          let h = hosted d two n pos in
          let l : length (map (separator d keys) ts) ≡ slot d n = length-map ts (separator d keys) ∙ h.filled in
          rw (takers_one d two (host d n) n refl, map-append _ ts (n ∷ []), separators-old (host d n) n all_there, separator-new)
          (padded_more (d - 1) (separator d keys n) (map (separator d keys) ts) (omega (arith, l, h.fits)) ∙ ap (λ (i : ℕ). set (padded (d - 1) (map (separator d keys) ts)) i (separator d keys n)) l)

      pub inner_new : opens d n ≡ true → inner_words d (keys ++ (x ∷ [])) (suc n) n ≡ padded (d - 1) (separator d keys n ∷ [])
      unfolding inner_words
      inner_new o = rw (takers_one d two n n ((hosted d two n pos).itself o), takers-before d two n n (le_refl n), separator-new)
