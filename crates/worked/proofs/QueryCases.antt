-- The questions of position, table, view, net change and units in their order (01, "The questions, in order"): each two neighbours
-- answered no together, each one alone, and the least lengths that suffice. Outputs and workspaces are lent memory, so a
-- refusal leaves them as they were. Assumes nothing.
use Prim.Native.Nat.{ℕ}
use mathlib.Core.Path.{◌≡◌, refl}
use mathlib.Core.List.{List, [], ◌∷◌}
use lib.ListN.{replicate}
use lib.IntN.{negsuc}
use Rattle.model.specs.Answers.{answers, refuses}
use Rattle.model.specs.Memory.{State}
use Rattle.model.specs.Queries.{position_of, table_questions, no_table, table_of, no_view, view_of, Netted, net_questions, no_net, net_of}
use Rattle.model.specs.Units.{units_of, difference_of}
use Rattle.worked.proofs.Computing.{computing}
use Rattle.worked.proofs.WorkedLog.{worked, located}
use Rattle.worked.proofs.QuestionOne.{full, unsound}
use Rattle.worked.proofs.QuestionCases.{noes}

-- 1 alone: position, view and units ask nothing else (the same of late times: LateCases)
positions : (position_of unsound 10 ∷ position_of (full 0 0) 10 ∷ []) ≡ refuses 1 ∷ located 0 1 ∷ []
unfolding computing
positions = refl

table-noes : (noes (table_questions unsound (replicate 7 3)) ∷ noes (table_questions unsound (replicate 8 3)) ∷ noes (table_questions worked (replicate 31 3)) ∷ [])
    ≡ (1 ∷ 13 ∷ []) ∷ (1 ∷ []) ∷ (13 ∷ []) ∷ []
unfolding computing noes
table-noes = refl

-- 1 13; then 1 and 13 alone
tables : (table_of unsound 10 (replicate 7 3) ∷ table_of unsound 10 (replicate 8 3) ∷ table_of worked 60 (replicate 31 3) ∷ [])
    ≡ no_table (replicate 7 3) 1 ∷ no_table (replicate 8 3) 1 ∷ no_table (replicate 31 3) 13 ∷ []
unfolding computing
tables = refl

-- 8 × R bytes are enough
enough_output : (table_of (full 0 0) 10 (replicate 8 3)).output ≡ 5 ∷ 0 ∷ 0 ∷ 0 ∷ 8 ∷ 0 ∷ 0 ∷ 0 ∷ []
unfolding computing
enough_output = refl

views : view_of unsound 10 ≡ no_view unsound 1
unfolding computing
views = refl

-- a net change with outputs and workspaces of these lengths
abbrev nets : State → ℕ → ℕ → ℕ → ℕ → Netted
nets st a b out work = net_of st a b (replicate out 3) (replicate work 4)

abbrev no_nets : ℕ → ℕ → ℕ → Netted
no_nets k out work = no_net (replicate out 3) (replicate work 4) k

abbrev net_noes : State → ℕ → ℕ → List ℕ
net_noes st out work = noes (net_questions st (replicate out 3) (replicate work 4))

net_noes_lem : (net_noes unsound 23 16 ∷ net_noes unsound 24 16 ∷ net_noes (full 0 0) 23 16 ∷ net_noes (full 0 0) 24 15 ∷ [])
    ≡ (1 ∷ 13 ∷ []) ∷ (1 ∷ []) ∷ (13 ∷ []) ∷ (13 ∷ []) ∷ []
unfolding computing noes
net_noes_lem = refl

-- 1 13; then 1, 13 by the output, 13 by the workspace
net_changes : (nets unsound 10 0 23 16 ∷ nets unsound 10 0 24 16 ∷ nets (full 0 0) 0 10 23 16 ∷ nets (full 0 0) 0 10 24 15 ∷ [])
    ≡ no_nets 1 23 16 ∷ no_nets 1 24 16 ∷ no_nets 13 23 16 ∷ no_nets 13 24 15 ∷ []
unfolding computing
net_changes = refl

-- 24 × R and 16 × R bytes are enough
enough_net : (nets (full 0 0) 10 0 24 16).outcome ≡ answers 1
unfolding computing
enough_net = refl

units : (units_of unsound 10 ∷ units_of (full 0 0) 10 ∷ []) ≡ refuses 1 ∷ answers 8 ∷ []
unfolding computing
units = refl

differences : (difference_of unsound 10 0 ∷ difference_of (full 0 0) 10 0 ∷ []) ≡ refuses 1 ∷ answers (negsuc 7) ∷ []
unfolding computing
differences = refl
