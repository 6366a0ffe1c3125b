-- The packed numbering of the nodes (01, "Packed tree"): nodes are numbered as they are allocated, "the new
-- inner node is numbered before the leaf"; and the one address of a node. Another edition of the tree
-- changes this file and not the shape. Assumes nothing.
use Rattle.std.specs.Prelude.{ℕ, zero, suc, ◌+◌, ◌-◌, ◌*◌, cond}
use Rattle.model.specs.Shape.{opens}

-- the inner nodes that leaf m brings with it: one or none
unfoldable pub opened : ℕ → ℕ → ℕ
opened d m = cond (opens d m) 1 0

-- the nodes of m leaves
unfoldable pub nodes : ℕ → ℕ → ℕ
nodes d zero = 0
nodes d (suc m) = suc (nodes d m + opened d m)

-- the number of leaf m, and of the inner node that leaf m opened, which is the one before
unfoldable pub leaf_node : ℕ → ℕ → ℕ
leaf_node d m = nodes d m + opened d m

abbrev pub inner_node : ℕ → ℕ → ℕ
inner_node d m = leaf_node d m - 1

-- "node k starting at word k × (d − 1)"
abbrev pub node_word : ℕ → ℕ → ℕ
node_word d k = k * (d - 1)
