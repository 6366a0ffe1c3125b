-- The areas of the files that stay, closed up one after the other, and zeros behind them. Assumes nothing.
use Prim.Native.Nat.{ℕ, ◌+◌, ◌-◌, ◌*◌, ◌≤◌, ◌<◌}
use mathlib.Core.Path.{◌≡◌, refl, sym, ap, ◌∙◌}
use mathlib.Core.List.{List, [], ◌∷◌, ◌++◌, append-nil}
use mathlib.Core.Bool.{Bool, true, false, cond}
use native.Mathlib.Omega.{arith}
use native.Mathlib.Numerals.{add-one}
use native.Mathlib.Nat.{mul-add, mul-le-mul_right}
use lib.ListN.{length, take, get_or, replicate, length-append}
use lib.Seq.{take-suc, length-take-le}
use Rattle.codec.specs.Parts.{zeros, part, put}
use Rattle.model.specs.declared.Entry.{Entry}
use Rattle.model.specs.Memory.{no_entry}
use Rattle.model.specs.Files.{File, files_in, no_file, areas_bytes, staying}
use Rattle.model.proofs.FileLaws.{files_in_append, length_files_in, areas_append, areas_none, whole_files_in, whole-staying, length_whole, staying_next, length-staying}
use Rattle.areas.specs.Moved.{area_joined, areas_closed}
use Rattle.areas.proofs.Moves.{brought_behind, put-behind}

-- the files of the first i entries that stay
abbrev pub left_of : (Entry → Bool) → ℕ → List Entry → List ℕ → ℕ → List File
left_of stays R es areas i = staying stays (files_in R areas 0 (take i es))

-- their areas at the front
abbrev pub closed_to : (Entry → Bool) → ℕ → List Entry → List ℕ → ℕ → List ℕ
closed_to stays R es areas i = put areas 0 (areas_bytes (left_of stays R es areas i))

module _ (stays : Entry → Bool) (R : ℕ) (es : List Entry) (areas : List ℕ) where
  left_few : (i : ℕ) → i ≤ length es → length (left_of stays R es areas i) ≤ i
  left_few i h =
      omega (arith, length-staying stays (files_in R areas 0 (take i es)), length_files_in R areas 0 (take i es), length-take-le i es h)

  left_long : (i : ℕ) → i ≤ length es → 8 * R * i ≤ length areas → length (areas_bytes (left_of stays R es areas i)) ≡ 8 * R * length (left_of stays R es areas i)
  left_long i h fits =
      let n : 0 + length (take i es) ≡ i = omega (arith, length-take-le i es h) in
      length_whole R (left_of stays R es areas i) (whole-staying stays R (files_in R areas 0 (take i es)) (whole_files_in R areas 0 (take i es) (rw n fits)))

  module _ (i : ℕ) (h : i < length es) where
    abbrev next : File
    next = record { entry = get_or es i no_entry; area = part (8 * R * i) (8 * R) areas }

    left-next : left_of stays R es areas (i + 1) ≡ cond (stays (get_or es i no_entry)) (left_of stays R es areas i ++ (next ∷ [])) (left_of stays R es areas i)
    unfolding files_in
    left-next =
        let e = get_or es i no_entry in
        let n : 0 + length (take i es) ≡ i = omega (arith, length-take-le i es (omega arith)) in
        rw (add-one, take-suc es i no_entry h, files_in_append R areas 0 (take i es) (e ∷ []), n) (staying_next stays (files_in R areas 0 (take i es)) next)

    pub count_turn : cond (stays (get_or es i no_entry)) (length (left_of stays R es areas i) + 1) (length (left_of stays R es areas i)) ≡ length (left_of stays R es areas (i + 1))
    count_turn = rw left-next (by (stays (get_or es i no_entry)))
      where
        by : (b : Bool) → cond b (length (left_of stays R es areas i) + 1) (length (left_of stays R es areas i))
            ≡ length (cond b (left_of stays R es areas i ++ (next ∷ [])) (left_of stays R es areas i))
        by true = sym (length-append (left_of stays R es areas i) (next ∷ []))
        by false = refl

    area-one : areas_bytes (next ∷ []) ≡ part (8 * R * i) (8 * R) areas
    unfolding areas_bytes
    area-one = append-nil (part (8 * R * i) (8 * R) areas)

    pub area_turn : 8 * R * (i + 1) ≤ length areas
        → area_joined (stays (get_or es i no_entry)) (8 * R) i (length (left_of stays R es areas i)) (closed_to stays R es areas i) ≡ closed_to stays R es areas (i + 1)
    area_turn fits = rw left-next (by (stays (get_or es i no_entry)))
      where
        left : List File
        left = left_of stays R es areas i

        by : (b : Bool) → area_joined b (8 * R) i (length left) (put areas 0 (areas_bytes left)) ≡ put areas 0 (areas_bytes (cond b (left ++ (next ∷ [])) left))
        by true =
            let few : length left * (8 * R) ≤ i * (8 * R) = mul-le-mul_right (8 * R) (left_few i (omega arith)) in
            brought_behind areas (areas_bytes left) (8 * R * length left) (8 * R * i) (8 * R) (left_long i (omega arith) (omega arith)) (omega (arith, few)) (omega arith)
            ∙ ap (put areas 0) (sym (areas_append left (next ∷ []) ∙ ap (λ (xs : List ℕ). areas_bytes left ++ xs) area-one))
        by false = refl

  -- zeros in the areas set free
  pub areas_closed_lem : (files : ℕ) → files ≤ length es → 8 * R * files ≤ length areas
      → let n = length (left_of stays R es areas files) in
      put (closed_to stays R es areas files) (8 * R * n) (zeros (8 * R * files - 8 * R * n)) ≡ areas_closed stays R files es areas
  areas_closed_lem files h fits =
      let left = left_of stays R es areas files in
      let n = length left in
      let all : files ≡ n + (files - n) = omega (arith, left_few files h) in
      let both : 8 * R * files ≡ 8 * R * n + 8 * R * (files - n) = ap (λ (m : ℕ). 8 * R * m) all ∙ mul-add (8 * R) n (files - n) in
      let free : 8 * R * files - 8 * R * n ≡ 8 * R * (files - n) = omega arith in
      put-behind areas (areas_bytes left) (zeros (8 * R * files - 8 * R * n)) (8 * R * n) (left_long files h fits)
      ∙ ap (put areas 0) (sym (areas_append left (replicate (files - n) (no_file R)) ∙ ap (λ (xs : List ℕ). areas_bytes left ++ xs) (areas_none R (files - n) ∙ ap zeros (sym free))))
