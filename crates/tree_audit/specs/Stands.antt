-- The packed tree over the page times of n records b, leaf by leaf: what has to stand where leaf m was needed.
-- `Auditable`, `Openable` and `span_of` are what contracts cite. Assumes nothing.
use Rattle.std.specs.Prelude.{ℕ, ◌+◌, ◌-◌, ◌*◌, ◌^◌, ◌≤◌, ◌<◌, ◌≡◌, List, true, cond}
use Rattle.model.specs.Shape.{opens, valuation}
use Rattle.model.specs.Numbering.{nodes, leaf_node}
use Rattle.model.specs.Pages.{pages_of}
use Rattle.model.specs.Tree.{nodes_of}
use Rattle.tree.specs.Places.{Laid}
use Rattle.tree_audit.specs.Times.{TimesAt}

-- how many leaves further on each separator of the node is that leaf m opens; 0 where it opens none
unfoldable pub span_of : ℕ → ℕ → ℕ
span_of d m = cond (opens d m) (d ^ valuation d m) 0

-- the first record of leaf m
abbrev pub first_of : ℕ → ℕ → ℕ → ℕ
first_of d N m = m * (d - 1) * N

-- leaf m of n records, and the node that it opened, hold what they should, node k standing from word `at k` on
pub record Stands (at : ℕ → ℕ) (d N n : ℕ) (b words : List ℕ) (m : ℕ) : Type 0 where
  pub leaf : TimesAt b (first_of d N m) N n words (at (leaf_node d m)) (d - 1)
  pub inner : opens d m ≡ true → TimesAt b (first_of d N m - N) (d ^ valuation d m * (d - 1) * N) (n - N) words (at (nodes d m)) (d - 1)

-- the settings and the memory of an audit of the index
pub record Auditable (d N n bytes e : ℕ) (starts : List ℕ) (words : ℕ) : Type 0 where
  pub order_low : 2 ≤ d
  pub order_high : d ≤ 64
  pub page_low : 2 ≤ N
  pub page_high : N ≤ 64
  pub records_few : n ≤ 65536
  pub long_log : 24 * n ≤ bytes
  pub laid : Laid d e starts (nodes_of d (pages_of N n)) words

-- the node of w words before a leaf whose first record is `first`, separators `span` leaves apart: it may be read
pub record Openable (bytes words at w page n first span : ℕ) : Type 0 where
  pub node_there : at + w ≤ words
  pub records_there : 24 * n ≤ bytes
  pub records_few : n ≤ 65536
  pub width_low : 1 ≤ w
  pub width_high : w ≤ 63
  pub page_low : 1 ≤ page
  pub there : first < n
  pub span_fits : span * w * page ≤ first
