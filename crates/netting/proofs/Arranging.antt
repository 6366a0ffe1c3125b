-- Entries put in order of their articles: how many they are, from which article on, and which come first. Assumes nothing.
use Prim.Native.Nat.{ℕ, suc, ◌≤◌}
use mathlib.Core.Path.{◌≡◌, refl, ap, ◌∙◌}
use mathlib.Core.List.{List, [], ◌∷◌, ◌++◌, map}
use mathlib.Core.Bool.{Bool, true, false, cond}
use native.Mathlib.Omega.{arith}
use lib.ListN.{length}
use lib.Dec.{ltb}
use borrow.Author.Tests.{lt-ltb, le-ltb}
use Rattle.model.specs.Rows.{Row, Ascending}
use Rattle.model.specs.NetChange.{Change, inserts, deletes, placed, arranged}
use Rattle.netting.specs.Form.{From}

-- ---- how many

length-placed : (c : Change) (cs : List Change) → length (placed c cs) ≡ suc (length cs)
unfolding placed
length-placed c [] = refl
length-placed c (x ∷ xs) = by (length-placed c xs) (ltb x.article c.article)
  where
    by : length (placed c xs) ≡ suc (length xs) → (t : Bool) → length (cond t (x ∷ placed c xs) (c ∷ (x ∷ xs))) ≡ suc (suc (length xs))
    by ih true = ap suc ih
    by ih false = refl

pub length-arranged : (cs : List Change) → length (arranged cs) ≡ length cs
unfolding arranged
length-arranged [] = refl
length-arranged (c ∷ cs) = length-placed c (arranged cs) ∙ ap suc (length-arranged cs)

-- ---- from which article on

pub from_weak : (lo hi : ℕ) (cs : List Change) → lo ≤ hi → From hi cs → From lo cs
unfolding From
from_weak lo hi [] h f = tt
from_weak lo hi (c ∷ cs) h f = (omega (arith, f.0), from_weak lo hi cs h f.1)

pub from_deletes : (lo : ℕ) (A : List Row) → Ascending lo A → From lo (map deletes A)
unfolding Ascending From
from_deletes lo [] h = tt
from_deletes lo (x ∷ xs) h = (h.0, from_weak lo (suc x.article) (map deletes xs) (omega (arith, h.0)) (from_deletes (suc x.article) xs h.1))

pub from_inserts : (lo : ℕ) (A : List Row) → Ascending lo A → From lo (map inserts A)
unfolding Ascending From
from_inserts lo [] h = tt
from_inserts lo (x ∷ xs) h = (h.0, from_weak lo (suc x.article) (map inserts xs) (omega (arith, h.0)) (from_inserts (suc x.article) xs h.1))

pub from_append : (lo : ℕ) (cs ds : List Change) → From lo cs → From lo ds → From lo (cs ++ ds)
unfolding From
from_append lo [] ds f g = g
from_append lo (c ∷ cs) ds f g = (f.0, from_append lo cs ds f.1 g)

from_placed : (lo : ℕ) (c : Change) (cs : List Change) → lo ≤ c.article → From lo cs → From lo (placed c cs)
unfolding From placed
from_placed lo c [] h f = (h, tt)
from_placed lo c (x ∷ xs) h f = by (from_placed lo c xs h f.1) (ltb x.article c.article)
  where
    by : From lo (placed c xs) → (t : Bool) → From lo (cond t (x ∷ placed c xs) (c ∷ (x ∷ xs)))
    by ih true = (f.0, ih)
    by ih false = (h, f)

pub from_arranged : (lo : ℕ) (cs : List Change) → From lo cs → From lo (arranged cs)
unfolding From arranged
from_arranged lo [] f = tt
from_arranged lo (c ∷ cs) f = from_placed lo c (arranged cs) f.0 (from_arranged lo cs f.1)

-- ---- which come first

pub placed_first : (c : Change) (cs : List Change) → From c.article cs → placed c cs ≡ c ∷ cs
unfolding From placed
placed_first c [] f = refl
placed_first c (x ∷ xs) f = rw (le-ltb x.article c.article f.0)

-- an entry below those in front of it, and not above those behind it
pub arranged_first : (c : Change) (ds cs : List Change) → From (suc c.article) ds → From c.article cs
    → arranged (ds ++ (c ∷ cs)) ≡ c ∷ arranged (ds ++ cs)
unfolding From placed arranged
arranged_first c [] cs f g = placed_first c (arranged cs) (from_arranged c.article cs g)
arranged_first c (d ∷ ds) cs f g = rw (arranged_first c ds cs f.1 g, lt-ltb c.article d.article f.0)
