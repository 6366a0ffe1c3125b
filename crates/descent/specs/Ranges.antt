-- A search over ranges of leaves, with no node numbers: what it finds in one node, and between which leaves
-- the keys up to a time end. Assumes nothing.
use Rattle.std.specs.Prelude.{ℕ, ◌+◌, ◌*◌, ◌≤◌, ◌<◌, length, get_or, List}
use Rattle.codec.specs.Search as search

-- of the c words from `at` on, the jth and the one before it lie on two sides of t
abbrev pub Cut : (words : List ℕ) (at c t j : ℕ) → Type 0
Cut words at c t j = search.Cut (λ i. get_or words (at + i) 0) c t j

-- on the way there, in those words alone
abbrev pub Bracket : (words : List ℕ) (t low left : ℕ) → Type 0
Bracket words t low left = search.Bracket (λ i. get_or words i 0) (length words) t low left

-- the keys up to t end in the leaves a to a + r - 1 of w keys each, of which the last has a key
pub record Between (keys : List ℕ) (w t a r : ℕ) : Type 0 where
  pub some : 0 < r
  pub there : (a + r) * w < length keys + w
  pub below : (i : ℕ) → i < a * w → get_or keys i 0 ≤ t
  pub above : (i : ℕ) → (a + r) * w ≤ i → i < length keys → t < get_or keys i 0
