-- Laws of the catalogue by value: it holds the entries that were lent. Assumes nothing.
use Prim.Native.Nat.{ℕ, ◌≤◌}
use mathlib.Core.Path.{◌≡◌, ◌∙◌}
use mathlib.Core.List.{List, ◌++◌}
use native.Mathlib.Omega.{arith}
use lib.ListN.{length, take, replicate, length-append, length-replicate, get_or-append}
use lib.Seq.{get_or-take, length-take-le, take-take, take-append-le}
use Rattle.model.specs.declared.Entry.{Entry}
use Rattle.model.specs.Memory.{no_entry}
use Rattle.catalogue.specs.declared.Catalogue.{Catalogue}
use Rattle.catalogue.specs.ByValue.{by_value, Loaded}

pub loaded_by_value : (lent : List Entry) {c : Catalogue} → c ≡ by_value lent → (k : ℕ) → k ≤ 16 → k ≤ length lent → Loaded lent k c
loaded_by_value lent {c} e k h l =
    record {
      few = h;
      lent = l;
      entries_are = λ i j. rw e (get_or-take 16 (lent ++ replicate 16 no_entry) i no_entry (omega arith) ∙ get_or-append lent (replicate 16 no_entry) no_entry i (omega arith));
    }

-- ---- the first sixteen entries

pub length_by_value : (lent : List Entry) → length (by_value lent).entries ≡ 16
length_by_value lent =
    length-take-le 16 (lent ++ replicate 16 no_entry) (omega (arith, length-append lent (replicate 16 no_entry), length-replicate 16 no_entry))

pub front_by_value : (lent : List Entry) (k : ℕ) → k ≤ 16 → k ≤ length lent → take k (by_value lent).entries ≡ take k lent
front_by_value lent k h l =
    take-take k 16 (lent ++ replicate 16 no_entry) h ∙ take-append-le k lent (replicate 16 no_entry) l
