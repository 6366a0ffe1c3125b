-- Counts of nodes by levels: the closed form of the packed numbering (01, "Packed tree"). Leaf m is node
-- m + inners d m; the laws of `Numbers` tie it to the numbering of the model. Assumes nothing.
use Rattle.std.specs.Prelude.{ℕ, zero, suc, ◌+◌, ◌-◌, ◌/◌, ◌^◌, ◌≤◌, ◌<◌}
use Rattle.model.specs.Tree.{nodes_of, index_words}

-- the inner nodes that the leaves up to m opened: on each level one for every d separators or part of d
unfoldable pub inners_up_to : ℕ → ℕ → ℕ → ℕ
inners_up_to d zero m = 0
inners_up_to d (suc f) m = (m + (d - 1)) / d + inners_up_to d f (m / d)

unfoldable pub inners : ℕ → ℕ → ℕ
inners d m = inners_up_to d m m

-- 1 + d + .. + d ^ (l - 1): the inner nodes over a full run of d ^ l leaves
unfoldable pub inners_over : ℕ → ℕ → ℕ
inners_over d zero = 0
inners_over d (suc l) = d ^ l + inners_over d l

-- all nodes of a full run of d ^ l leaves
abbrev pub full_nodes : ℕ → ℕ → ℕ
full_nodes d l = d ^ l + inners_over d l

-- f 0 + f 1 + .., n terms
unfoldable pub sum_of : (ℕ → ℕ) → ℕ → ℕ
sum_of f zero = 0
sum_of f (suc n) = f 0 + sum_of (λ i. f (suc i)) n

-- an order of 01, and k keys whose nodes can all be reached
pub record Room (d k : ℕ) (P : ℕ → Type 0) : Type 0 where
  pub order_low : 2 ≤ d
  pub order_high : d ≤ 64
  pub few : k ≤ 65536
  pub reach : (i : ℕ) → i < nodes_of d k → P i

-- the same in one stretch: room for them in an index of n words
pub record Stretch (d k n : ℕ) : Type 0 where
  pub order_low : 2 ≤ d
  pub order_high : d ≤ 64
  pub few : k ≤ 65536
  pub long : index_words d k ≤ n
