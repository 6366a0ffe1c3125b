-- What calls leave in memory where no question is left to ask (01, "The questions, in order", "Count files"): what 17, fresh
-- store, keep and drop write and what they leave alone, the capacity, and which outset is used, where its rows lie.
-- Assumes nothing.
use Prim.Native.Nat.{ℕ}
use mathlib.Core.Path.{◌≡◌, refl}
use mathlib.Core.List.{List, [], ◌∷◌, ◌++◌, map}
use lib.ListN.{length, replicate}
use Rattle.codec.specs.Parts.{zeros}
use Rattle.model.specs.declared.Entry.{Entry}
use Rattle.model.specs.declared.Side.TheVariants.{Earlier, Later}
use Rattle.model.specs.declared.Place.TheVariants.{Empty, Area, Current}
use Rattle.model.specs.Answers.{answers, refuses_at}
use Rattle.model.specs.Records.{header_bytes}
use Rattle.model.specs.Memory.{Memory, State, state, capacity}
use Rattle.model.specs.Outset.{held, apart}
use Rattle.model.specs.Starts.{after, fresh_of, open_of}
use Rattle.model.specs.Queries.{position_of, table_of, view_of, net_of}
use Rattle.model.specs.Files.{keep_of}
use Rattle.model.specs.Calls.{keep, drop, run}
use Rattle.worked.proofs.Computing.{computing}
use Rattle.worked.proofs.WorkedLog.{worked, entry, located, table20, seen}
use Rattle.worked.proofs.QuestionOne.{numbers_of, pair}

-- ---- 17 and fresh store

-- a log of five records, none of them one, R = 1, in memory with something behind each part: 17 takes three nodes of two
-- words, 8 bytes of table and two entries, as there are areas for two
abbrev wrong_log : List ℕ
wrong_log = header_bytes (numbers_of 3 2 1 5 50 0 0) ++ replicate 121 7

abbrev lent : List ℕ → Memory
lent log =
    record {
      log = log;
      index = replicate 8 555;
      table = replicate 10 5;
      catalogue = entry 1 2 9 ∷ entry 3 4 8 ∷ entry 5 6 9 ∷ [];
      areas = replicate 17 9;
    }

-- "At 17 the index nodes that n records take, the table and the catalogue are zero and so are the store's numbers"
at-17 : open_of (lent wrong_log)
    ≡ after (refuses_at 17 0) (state (numbers_of 0 0 0 0 0 0 0)
    (record {
      log = wrong_log;
      index = zeros 6 ++ (555 ∷ 555 ∷ []);
      table = zeros 8 ++ (5 ∷ 5 ∷ []);
      catalogue = entry 0 0 0 ∷ entry 0 0 0 ∷ entry 5 6 9 ∷ [];
      areas = replicate 17 9;
    }))
unfolding computing
at-17 = refl

-- "It writes the header and zeroes the table and catalogue. Neither it nor an opening touches the areas"
fresh-leaves : fresh_of 3 2 1 (lent (replicate 30 7))
    ≡ after (answers tt) (state (numbers_of 3 2 1 0 0 0 0)
    (record {
      log = 24 ∷ 0 ∷ 1 ∷ 0 ∷ 3 ∷ 0 ∷ 2 ∷ 0 ∷ 1 ∷ 0 ∷ 0 ∷ 0 ∷ (zeros 12 ++ replicate 6 7);
      index = replicate 8 555;
      table = zeros 8 ++ (5 ∷ 5 ∷ []);
      catalogue = entry 0 0 0 ∷ entry 0 0 0 ∷ entry 5 6 9 ∷ [];
      areas = replicate 17 9;
    }))
unfolding computing
fresh-leaves = refl

-- ---- capacity

-- "the least of 16, the entries lent and the whole areas lent": 100 bytes at R = 4, 12, 13; 16 at most; entries
capacities : (capacity 4 9 100 ∷ capacity 12 9 100 ∷ capacity 13 9 100 ∷ capacity 1 20 800 ∷ capacity 1 5 800 ∷ capacity 1 0 800 ∷ capacity 4 9 31 ∷ capacity 4 9 32 ∷ [])
    ≡ 3 ∷ 1 ∷ 0 ∷ 16 ∷ 5 ∷ 0 ∷ 0 ∷ 1 ∷ []
unfolding computing
capacities = refl

-- ---- keep and drop, on 01's log with three areas and a fourth entry, past the capacity

-- so many files, this catalogue and these areas
abbrev pub wide_with : ℕ → List Entry → List ℕ → State
wide_with files catalogue areas =
    let m = worked.memory in
    state (numbers_of 3 2 4 8 60 2 files) (record { log = m.log; index = m.index; table = m.table; catalogue = catalogue; areas = areas })

abbrev wide : State
wide = wide_with 0 (entry 0 0 0 ∷ entry 0 0 0 ∷ entry 0 0 0 ∷ entry 99 98 9 ∷ []) (replicate 100 9)

abbrev table40 : List ℕ
table40 = 7 ∷ 0 ∷ 0 ∷ 0 ∷ 44 ∷ 0 ∷ 0 ∷ 0 ∷ zeros 24

-- "Keeping shifts the later files up", each with its mark, whatever was kept first; time 5 has no row, and its area no stale byte
keeps_shift : run wide (keep 40 5 ∷ keep 20 7 ∷ keep 5 0 ∷ [])
    ≡ wide_with 3 (entry 5 0 0 ∷ entry 20 2 7 ∷ entry 40 1 5 ∷ entry 99 98 9 ∷ []) (zeros 32 ++ (table20 ++ (table40 ++ replicate 4 9)))
unfolding computing
keeps_shift = refl

abbrev three : State
three = run wide (keep 5 0 ∷ keep 20 7 ∷ keep 40 5 ∷ [])

-- "dropping shifts them down and zeroes the last used entry and area"
drop_first : run three (drop 5 ∷ [])
    ≡ wide_with 2 (entry 20 2 7 ∷ entry 40 1 5 ∷ entry 0 0 0 ∷ entry 99 98 9 ∷ []) (table20 ++ (table40 ++ (zeros 32 ++ replicate 4 9)))
unfolding computing
drop_first = refl

drop_middle : run three (drop 20 ∷ [])
    ≡ wide_with 2 (entry 5 0 0 ∷ entry 40 1 5 ∷ entry 0 0 0 ∷ entry 99 98 9 ∷ []) (zeros 32 ++ (table40 ++ (zeros 32 ++ replicate 4 9)))
unfolding computing
drop_middle = refl

drop-last : run three (drop 40 ∷ [])
    ≡ wide_with 2 (entry 5 0 0 ∷ entry 20 2 7 ∷ entry 0 0 0 ∷ entry 99 98 9 ∷ []) (zeros 32 ++ (table20 ++ (zeros 32 ++ replicate 4 9)))
unfolding computing
drop-last = refl

-- the area behind the used ones is not touched
drop_only : run wide (keep 20 7 ∷ drop 20 ∷ [])
    ≡ wide_with 0 (entry 0 0 0 ∷ entry 0 0 0 ∷ entry 0 0 0 ∷ entry 99 98 9 ∷ []) (zeros 32 ++ replicate 68 9)
unfolding computing
drop_only = refl

-- time 0, three files, the current table
five_held : length (held three) ≡ 5
unfolding computing
five_held = refl

-- ---- outsets

abbrev rows60 : List ℕ
rows60 = 7 ∷ 0 ∷ 0 ∷ 0 ∷ 44 ∷ 0 ∷ 0 ∷ 0 ∷ 9 ∷ 0 ∷ 0 ∷ 0 ∷ 6 ∷ 0 ∷ 0 ∷ 0 ∷ []

-- "the larger less the smaller", both ways round
apart-both : (apart 1 3 ∷ apart 3 1 ∷ apart 2 2 ∷ []) ≡ 2 ∷ 2 ∷ 0 ∷ []
unfolding computing
apart-both = refl

-- a kept time answers from itself, earlier, with no request between; the part is its rows and no zeros, and of a file
-- with no row the empty part
from_itself : map (view_of three) (40 ∷ 20 ∷ 5 ∷ [])
    ≡ seen (Area 2) 1 Earlier 0 (7 ∷ 0 ∷ 0 ∷ 0 ∷ 44 ∷ 0 ∷ 0 ∷ 0 ∷ [])
    ∷ seen (Area 1) 2 Earlier 0 (3 ∷ 0 ∷ 0 ∷ 0 ∷ 12 ∷ 0 ∷ 0 ∷ 0 ∷ 7 ∷ 0 ∷ 0 ∷ 0 ∷ 50 ∷ 0 ∷ 0 ∷ 0 ∷ []) ∷ seen (Area 0) 0 Earlier 0 [] ∷ []
unfolding computing
from_itself = refl

-- nearest in time on its side, though no request lies between time 0 and 7 either
nearest_in_time : view_of three 7 ≡ seen (Area 0) 0 Earlier 0 []
unfolding computing
nearest_in_time = refl

-- "Choosing by nearness in time" would be wrong: 59 has one request after 40 and two up to 60, and starts from 40
not_by_time : (view_of three 59).outcome ≡ answers (record { place = Area 2; rows = 1; side = Earlier; between = 1 })
unfolding computing
not_by_time = refl

-- "A count file at the last time goes before the current table"; without it the current table is used
file-at-last : (view_of (keep_of wide 60 7).state 50 ∷ view_of wide 50 ∷ []) ≡ seen (Area 0) 2 Later 2 rows60 ∷ seen Current 2 Later 2 rows60 ∷ []
unfolding computing
file-at-last = refl

-- no request lies between the last time and the current table, on whatever page
one_page : view_of (pair 0 0) 20 ≡ seen Current 2 Later 0 (5 ∷ 0 ∷ 0 ∷ 0 ∷ 8 ∷ 0 ∷ 0 ∷ 0 ∷ 6 ∷ 0 ∷ 0 ∷ 0 ∷ 9 ∷ 0 ∷ 0 ∷ 0 ∷ [])
unfolding computing
one_page = refl

-- ---- an empty store

abbrev none : State
none = (fresh_of 3 2 1 (lent (replicate 24 7))).state

none_answers : view_of none 0 ≡ seen Empty 0 Earlier 0 []
unfolding computing
none_answers = refl

none-table : table_of none 0 (replicate 9 3) ≡ record { outcome = answers (record { rows = 0; side = Earlier; between = 0 }); output = zeros 8 ++ (3 ∷ []) }
unfolding computing
none-table = refl

none_positions : (position_of none 0 ∷ position_of none 1 ∷ []) ≡ located 0 0 ∷ located 0 0 ∷ []
unfolding computing
none_positions = refl

none_net : (net_of none 0 0 (replicate 24 3) (replicate 16 3)).outcome ≡ answers 0
unfolding computing
none_net = refl
