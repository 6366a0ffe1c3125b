-- The order of deletions (02, wish 9), computed on a store of six files, each area with other bytes, those marked 5 neighbours: whichever
-- way the files of 10, 20, 30 and 38 go, all of the store is the same. Assumes nothing.
use mathlib.Core.Path.{◌≡◌, refl}
use mathlib.Core.List.{List, [], ◌∷◌, ◌++◌, map}
use lib.ListN.{replicate}
use Rattle.codec.specs.Parts.{zeros}
use Rattle.model.specs.Memory.{State, no_entry}
use Rattle.model.specs.Files.{reduced}
use Rattle.model.specs.Calls.{Call, run}
use Rattle.model.specs.Deletions.{spared}
use Rattle.model.proofs.FileStores.{marking, row, file, with}

-- behind them a free entry with a used area
abbrev pub six : State
six =
    with 6 (file 10 7 ∷ file 20 5 ∷ file 30 5 ∷ file 35 0 ∷ file 38 7 ∷ file 40 0 ∷ no_entry ∷ [])
    (row 8 ++ (row 9 ++ (row 6 ++ (row 7 ++ (row 3 ++ (row 4 ++ replicate 8 1))))))

-- two orders of the same three deletions, the first of which takes two neighbours
two_orders : run six (Call.drop_marked 5 ∷ Call.drop 10 ∷ Call.drop 38 ∷ []) ≡ run six (Call.drop 38 ∷ Call.drop_marked 5 ∷ Call.drop 10 ∷ [])
unfolding marking
two_orders = refl

-- the neighbours one by one
one_by_one : run six (Call.drop_marked 5 ∷ []) ≡ run six (Call.drop 30 ∷ Call.drop 20 ∷ [])
unfolding marking
one_by_one = refl

-- what is left: zeros up to the former count, and all behind as it was
abbrev two : State
two = with 2 (file 35 0 ∷ file 40 0 ∷ replicate 5 no_entry) (row 7 ++ (row 4 ++ (zeros 32 ++ replicate 8 1)))

-- the three in all their orders, other deletions of the same files, and with refused and repeated ones among them
unfoldable lists : List (List Call)
lists =
    (Call.drop_marked 5 ∷ Call.drop 10 ∷ Call.drop 38 ∷ []) ∷ (Call.drop_marked 5 ∷ Call.drop 38 ∷ Call.drop 10 ∷ [])
    ∷ (Call.drop 10 ∷ Call.drop_marked 5 ∷ Call.drop 38 ∷ []) ∷ (Call.drop 38 ∷ Call.drop_marked 5 ∷ Call.drop 10 ∷ [])
    ∷ (Call.drop 10 ∷ Call.drop 38 ∷ Call.drop_marked 5 ∷ []) ∷ (Call.drop 38 ∷ Call.drop 10 ∷ Call.drop_marked 5 ∷ [])
    ∷ (Call.drop_marked 7 ∷ Call.drop_marked 5 ∷ []) ∷ (Call.drop 30 ∷ Call.drop_marked 7 ∷ Call.drop 20 ∷ [])
    ∷ (Call.drop 20 ∷ Call.drop 25 ∷ Call.drop_marked 0 ∷ Call.drop 38 ∷ Call.drop_marked 5 ∷ Call.drop 20 ∷ Call.drop_marked 5 ∷ Call.drop 10 ∷ Call.drop_marked 6 ∷ [])
    ∷ []

same_left : map (run six) lists ≡ replicate 9 two
unfolding marking lists
same_left = refl

-- by one removal of the files that no call of the list lets go
one_removal : map (λ (ds : List Call). reduced (spared ds) six) lists ≡ replicate 9 two
unfolding marking lists
one_removal = refl
