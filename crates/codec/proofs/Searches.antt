-- A search by rungs: k numbers more are passed, or not, and each rung halves what is left. Assumes nothing.
use Prim.Native.Nat.{ℕ, ◌+◌, ◌-◌, ◌*◌, ◌≤◌, ◌<◌}
use mathlib.Core.Path.{◌≡◌}
use native.Mathlib.Omega.{arith}
use Rattle.codec.specs.Search.{Cut, Bracket}

module _ {f : ℕ → ℕ} {c t low : ℕ} (k : ℕ) (one : 0 < k) where
  pub bracket_up : low + k ≤ c → f (low + k - 1) ≤ t → Bracket f c t low (2 * k - 1) → Bracket f c t (low + k) (k - 1)
  bracket_up l h b =
      let e : low + k + (k - 1) ≡ low + (2 * k - 1) = omega arith in
      record { upto = l; before = λ _. h; after = rw e b.after }

  pub bracket_down : t < f (low + k - 1) → Bracket f c t low (2 * k - 1) → Bracket f c t low (k - 1)
  bracket_down h b =
      let e : low + k - 1 ≡ low + (k - 1) = omega arith in
      record { upto = b.upto; before = b.before; after = λ _. rw e at h }

pub bracket_end : {f : ℕ → ℕ} {c t low : ℕ} → Bracket f c t low 0 → Cut f c t low
bracket_end {low = low} b =
    let e : low + 0 ≡ low = omega arith in
    record { upto = b.upto; before = b.before; after = rw e at b.after }
