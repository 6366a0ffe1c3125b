-- Entries whose numbers fit their fields are read back from their bytes, and those of a net change between tables of rows that fit
-- do fit. Assumes nothing.
use Prim.Native.Nat.{ℕ, ◌^◌, ◌<◌}
use mathlib.Core.Path.{◌≡◌, refl, ap}
use mathlib.Core.List.{List, [], ◌∷◌, ◌++◌, append_assoc}
use native.Mathlib.Omega.{arith}
use lib.ListN.{length}
use lib.Seq.{drop_at}
use Rattle.codec.specs.LittleEndian.{number, bytes}
use Rattle.codec.proofs.Numbers.{number-bytes}
use Rattle.model.specs.Rows.{Row, Ascending}
use Rattle.model.specs.Small.{RowsBelow, Small}
use Rattle.model.specs.NetChange.{Change, inserts, deletes, change_bytes, changes_bytes, net_change}
use Rattle.netting.specs.Form.{Merged}
use Rattle.netting.specs.Entries.{change_in, changes_in, ChangeFits, ChangesFit}
use Rattle.netting.proofs.ChangeBytes.{length_change_bytes}
use Rattle.netting.proofs.Merging.{merged}

pub change_eq : {c d : Change} → c.kind ≡ d.kind → c.article ≡ d.article → c.count ≡ d.count → c ≡ d
change_eq {c} {d} p q r =
    let e : ◌≡◌ {A = Change} (record { kind = c.kind; article = c.article; count = c.count }) (record { kind = d.kind; article = d.article; count = d.count }) = cc in
    e

pub change_read_lem : (c : Change) (rest : List ℕ) → ChangeFits c → change_in (change_bytes c ++ rest) ≡ c
unfolding change_in change_bytes bytes number
change_read_lem c rest f =
    change_eq (number-bytes 2 c.kind (bytes 4 c.article ++ (bytes 4 c.count ++ rest)) f.kind_fits)
    (number-bytes 4 c.article (bytes 4 c.count ++ rest) f.article_fits) (number-bytes 4 c.count rest f.count_fits)

pub changes-read : (cs : List Change) (rest : List ℕ) → ChangesFit cs → changes_in (length cs) (changes_bytes cs ++ rest) ≡ cs
unfolding changes_in changes_bytes ChangesFit
changes-read [] rest f = refl
changes-read (c ∷ cs) rest f =
    rw (append_assoc, change_read_lem c (changes_bytes cs ++ rest) f.0, drop_at (change_bytes c) (changes_bytes cs ++ rest) 12 (length_change_bytes c))
    (ap (λ (ds : List Change). c ∷ ds) (changes-read cs rest f.1))

-- ---- entries of a net change

row_entries : (r : Row) → (r.article < 256 ^ 4) × (r.count < 256 ^ 4) → ChangeFits (deletes r) × ChangeFits (inserts r)
row_entries r s =
    (record { kind_fits = omega arith; article_fits = s.0; count_fits = s.1 }, record { kind_fits = omega arith; article_fits = s.0; count_fits = s.1 })

merged_fits : {lo : ℕ} {A B : List Row} {cs : List Change} → Merged lo A B cs → Small A → Small B → ChangesFit cs
unfolding RowsBelow ChangesFit
merged_fits Merged.none s t = tt
merged_fits (Merged.gone r l m) s t = ((row_entries r s.0).0, merged_fits m s.1 t)
merged_fits (Merged.come r l m) s t = ((row_entries r t.0).1, merged_fits m s t.1)
merged_fits (Merged.kept r l m) s t = merged_fits m s.1 t.1
merged_fits (Merged.recounted r q l e n m) s t = ((row_entries r s.0).0, ((row_entries q t.0).1, merged_fits m s.1 t.1))

pub net_entries_fit : (A B : List Row) → Ascending 0 A → Ascending 0 B → Small A → Small B → ChangesFit (net_change A B)
net_entries_fit A B h g s t = merged_fits (merged 0 A B h g) s t
