-- What comparing and filling come to, place by place (specs/Stretches). Assumes nothing.
use Prim.Native.Nat.{ℕ, suc, ◌+◌, ◌-◌, ◌≤◌, ◌<◌}
use mathlib.Core.Path.{◌≡◌, refl, sym, ap, ◌∙◌}
use mathlib.Core.List.{List, [], ◌∷◌}
use native.Mathlib.Omega.{arith}
use lib.ListN.{length, get_or, length-replicate, get_or-replicate}
use lib.Seq.{get_or-drop, get_or-take}
use Rattle.codec.specs.Parts.{zeros, part, put}
use Rattle.codec.specs.Stretches.{EachAgrees, ComparesEach, ZeroedIn, FillsEach}
use Rattle.codec.proofs.PartLaws.{length-put, part-put, get_d_put-before, get_d_put-after, put-zeros}
use Rattle.codec.proofs.Sameness.{same_true, same_of_equal}

-- lists of one length that agree at each place
each_agrees : (xs ys : List ℕ) → length xs ≡ length ys → EachAgrees xs ys → xs ≡ ys
each_agrees [] [] n h = refl
each_agrees [] (y ∷ ys) n h = absurd (omega (arith, n))
each_agrees (x ∷ xs) [] n h = absurd (omega (arith, n))
each_agrees (x ∷ xs) (y ∷ ys) n h =
    let first : x ≡ y = h 0 (omega arith) in
    let rest : xs ≡ ys = each_agrees xs ys (omega (arith, n)) (λ i l. h (suc i) (omega (arith, l))) in
    cc

pub compares_each : ComparesEach
compares_each xs ys n = (λ yes i l. ap (λ (zs : List ℕ). get_or zs i 0) (same_true xs ys yes), λ h. same_of_equal xs ys (each_agrees xs ys n h))

-- a place of what was written
get_d_put-zeros : (xs : List ℕ) (a k i : ℕ) → a ≤ length xs → a ≤ i → i < a + k → get_or (put xs a (zeros k)) i 0 ≡ 0
get_d_put-zeros xs a k i h l m =
    let ys = put xs a (zeros k) in
    let e : a + (i - a) ≡ i = omega arith in
    let n : length (zeros k) ≡ k = length-replicate k 0 in
    let stretch : part a k ys ≡ zeros k = ap (λ (j : ℕ). part a j ys) (sym n) ∙ part-put xs a (zeros k) h in
    let there : get_or (part a k ys) (i - a) 0 ≡ get_or ys i 0 = get_or-take k _ (i - a) 0 (omega arith) ∙ get_or-drop a ys (i - a) 0 ∙ ap (λ (j : ℕ). get_or ys j 0) e in
    sym there ∙ ap (λ (zs : List ℕ). get_or zs (i - a) 0) stretch ∙ get_or-replicate k (i - a) 0 0 (omega arith)

zeroed_put : (a e : ℕ) (xs : List ℕ) → a ≤ e → e ≤ length xs → ZeroedIn a e xs (put xs a (zeros (e - a)))
zeroed_put a e xs h g =
    let n : length (zeros (e - a)) ≡ e - a = length-replicate (e - a) 0 in
    record {
      as_long = length-put xs a (zeros (e - a)) (omega arith);
      zero_in = λ i l m. get_d_put-zeros xs a (e - a) i (omega arith) l (omega (arith, m));
      kept_before = λ i l. get_d_put-before i xs a (zeros (e - a)) 0 l (omega arith);
      kept_behind = λ i l. get_d_put-after i xs a (zeros (e - a)) 0 (omega (arith, l)) (omega arith);
    }

pub fills_each : FillsEach
fills_each a e xs zs h g q = rw (put-zeros a e xs h g q) (zeroed_put a e xs h g)
