-- What callers of these functions need besides their contracts. Assumes nothing.
use Prim.Native.Nat.{ℕ, ◌-◌, ◌≤◌, min}
use mathlib.Core.Path.{◌≡◌, refl, sym, ap, ◌∙◌, subst}
use mathlib.Core.List.{List}
use native.Mathlib.Omega.{arith}
use lib.ListN.{length, get_or, replicate}
use Rattle.codec.specs.Parts.{put}
use Rattle.model.specs.declared.Numbers.{Numbers}
use Rattle.model.specs.declared.Entry.{Entry}
use Rattle.model.specs.Memory.{no_entry}
use Rattle.catalogue.specs.declared.Going.{Going}
use Rattle.catalogue.specs.declared.Staying.{Staying}
use Rattle.catalogue.specs.Candidates.{used_in}
use Rattle.catalogue.specs.Entries.{stays_when, staying_of, flag_at, Says}
use Rattle.catalogue.proofs.CandidateLaws.{used_looked}
use Rattle.catalogue.proofs.EntryTurns.{stays_said}

-- what is said of the used entries is said of the first k of them, where k is no more than are used
pub says_used : (going : Going) (s : Numbers) (ys : List Entry) {x : Staying} (k : ℕ) → x ≡ staying_of going (used_in s ys) (length ys) → k ≤ 16 → k ≤ length ys → k ≤ s.files → Says going k ys x
says_used going s ys k e few fits used i l =
    let m = min (min 16 s.files) (length ys) in
    subst (λ (y : Staying). flag_at y i ≡ stays_when going (get_or ys i no_entry)) (sym (e ∙ ap (λ (us : List Entry). staying_of going us (length ys)) (sym (used_looked s ys m refl))))
    (stays_said going ys m (length ys) (omega arith) i (omega arith))

-- the first k entries made zero
pub cleared_first : (ys : List Entry) (k : ℕ) {zs : List Entry} → zs ≡ put ys 0 (replicate (k - 0) no_entry) → zs ≡ put ys 0 (replicate k no_entry)
cleared_first ys k e = let n : k - 0 ≡ k = omega arith in e ∙ ap (λ (m : ℕ). put ys 0 (replicate m no_entry)) n
