-- Stores on which keep, drop and drop by mark (02, wish 3) are computed: of one article, 5, counted 8 at time 10, 9 at 20, 6 at 30 and 4
-- at 40, with a file of each time: marked 7, 5, 5 and 0. A fifth entry is free, with a used area; a sixth lies past the capacity.
-- Assumes nothing.
use Prim.Native.Nat.{ℕ}
use mathlib.Core.List.{List, [], ◌∷◌, ◌++◌}
use lib.ListN.{replicate}
use Rattle.codec.specs.Parts.{zeros}
use Rattle.model.specs.declared.Numbers.{Numbers}
use Rattle.model.specs.declared.Entry.{Entry}
use Rattle.model.specs.Records.{insertion, deletion, records_bytes, header_bytes}
use Rattle.model.specs.Shape.{leaf_words}
use Rattle.model.specs.Tree.{allotted, tree_of, with_nodes, with_tree}
use Rattle.model.specs.Memory.{State, state, no_entry}
use Rattle.model.specs.Files.{staying, drop_of, drop_marked_of}
use Rattle.model.specs.Promises.{is_refused}
use Rattle.model.specs.Demands.{marks_at, other_marks, held_next, held_after}
use Rattle.model.specs.Deletions.{lets_go, spared}
use Rattle.model.specs.Calls.{step, run}
use Rattle.model.proofs.LateComputed.{computing}

unfoldable pub marking : Unit {0}
unfolding computing staying drop_of drop_marked_of marks_at other_marks held_next held_after step run is_refused lets_go spared with_tree with_nodes tree_of allotted leaf_words
marking = tt

abbrev pub numbers : ℕ → Numbers
numbers files = record { order = 2; page = 8; limit = 1; records = 7; last = 40; live = 1; files = files }

abbrev pub row : ℕ → List ℕ
row count = 5 ∷ 0 ∷ 0 ∷ 0 ∷ count ∷ 0 ∷ 0 ∷ 0 ∷ []

abbrev log : List ℕ
log =
    header_bytes (numbers 0)
    ++ records_bytes
    (insertion 0 10 5 8 ∷ deletion 1 20 5 8 ∷ insertion 2 20 5 9 ∷ deletion 3 30 5 9 ∷ insertion 4 30 5 6 ∷ deletion 5 40 5 6
    ∷ insertion 6 40 5 4 ∷ [])

abbrev pub file : ℕ → ℕ → Entry
file t k = record { time = t; rows = 1; mark = k }

-- past the capacity
abbrev past : Entry
past = record { time = 3; rows = 4; mark = 9 }

-- five entries and the one past them, the bytes of five areas and three more
abbrev pub with : ℕ → List Entry → List ℕ → State
with files entries areas =
    state (numbers files) (record { log = log; index = 10 ∷ []; table = row 4; catalogue = entries ++ (past ∷ []); areas = areas ++ replicate 3 2 })

abbrev pub four : State
four =
    with 4 (file 10 7 ∷ file 20 5 ∷ file 30 5 ∷ file 40 0 ∷ no_entry ∷ []) (row 8 ++ (row 9 ++ (row 6 ++ (row 4 ++ replicate 8 1))))

-- the two marked 5 are neighbours
abbrev pub friday : State
friday = with 2 (file 10 7 ∷ file 40 0 ∷ replicate 3 no_entry) (row 8 ++ (row 4 ++ (zeros 16 ++ replicate 8 1)))

-- then that marked 7, the first
abbrev pub sunday : State
sunday = with 1 (file 40 0 ∷ replicate 4 no_entry) (row 4 ++ (zeros 24 ++ replicate 8 1))
