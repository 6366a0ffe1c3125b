-- The order of deletions (02, wish 9): "From one state of the store, drops and marked deletions in any order, with no keep between, end
-- in the same catalogue and areas when the same files go". What a list of deletions leaves is one removal, by one test. Assumes nothing.
use Rattle.std.specs.Prelude.{ℕ, ◌≡◌, ◌↔◌, Bool, true, false, not, ◌&&◌, eqb}
use mathlib.Core.List.{List, [], ◌∷◌, Memᴰ}
use Rattle.model.specs.declared.Entry.{Entry}
use Rattle.model.specs.Marks.{goes}
use Rattle.model.specs.Memory.{State, sound}
use Rattle.model.specs.Files.{files_of, is_kept, reduced, is_marked}
use Rattle.model.specs.Calls.{Start, StartFits, Call, AllFit, run}
use Rattle.model.specs.Chains.{Ran, RanFrom}
use Rattle.model.specs.Demands.{AfterEveryList}
use Rattle.model.specs.LateTimes.{IsKeep}

-- ---- lists of deletions

-- "drops and marked deletions", refused ones included
pub data IsDeletion : Call → Type 0 where
  drops : (t : ℕ) → IsDeletion (Call.drop t)
  drops_marked : (k : ℕ) → IsDeletion (Call.drop_marked k)

-- "with no keep between": any other call may be
abbrev pub IsNoKeep : Call → Type 0
IsNoKeep c = IsKeep c → ⊥

unfoldable pub Each : (Call → Type 0) → List Call → Type 0
Each P [] = Unit
Each P (c ∷ cs) = P c × Each P cs

-- each call of the one is among those of the other
abbrev pub SameCalls : List Call → List Call → Type 0
SameCalls ds es = (c : Call) → Memᴰ c ds ↔ Memᴰ c es

-- ---- what they leave

-- the call lets the file of an entry go, if there is one: a drop that of its time, a marked deletion those of its mark
unfoldable pub lets_go : Call → Entry → Bool
lets_go (Call.insert t a c) e = false
lets_go (Call.delete t a) e = false
lets_go (Call.update t a c) e = false
lets_go (Call.position t) e = false
lets_go (Call.table t out) e = false
lets_go (Call.view t) e = false
lets_go (Call.net_change a b out work) e = false
lets_go (Call.units t) e = false
lets_go (Call.difference a b) e = false
lets_go (Call.keep t k) e = false
lets_go (Call.drop t) e = eqb e.time t
lets_go (Call.drop_marked k) e = goes k && is_marked k e
lets_go Call.audit e = false

-- no call of the list does
unfoldable pub spared : List Call → Entry → Bool
spared [] e = true
spared (c ∷ cs) e = not (lets_go c e) && spared cs e

-- they leave the files that none of them lets go, closed up once, in every memory of which question 1 is answered yes
abbrev pub DeletionsLeave : Type 0
DeletionsLeave = (st : State) (ds : List Call) → sound st ≡ true → Each IsDeletion ds → run st ds ≡ reduced (spared ds) st

-- ---- the same files go

-- said of the times then held
abbrev pub SameHeld : State → State → Type 0
SameHeld x y = (t : ℕ) → is_kept t (files_of x) ≡ is_kept t (files_of y)

-- "the same catalogue and areas", whole: areas of one length, as many files, their entries, zeros behind them, areas set free, and all
-- that lies behind
pub record SameFiles (x y : State) : Type 0 where
  pub same_limit : x.numbers.limit ≡ y.numbers.limit
  pub same_count : x.numbers.files ≡ y.numbers.files
  pub same_catalogue : x.memory.catalogue ≡ y.memory.catalogue
  pub same_areas : x.memory.areas ≡ y.memory.areas

-- a list of such calls, which leaves x
pub record LeftBy (Such : Call → Type 0) (Leaves : List Call → State → Type 0) (cs : List Call) (x : State) : Type 0 where
  pub fit : AllFit cs
  pub each : Each Such cs
  pub leaves : Leaves cs x

-- from one store, by whatever way the calls of a list leave another
pub record OrderIsFree (Leaves : List Call → State → Type 0) : Type 0 where
  -- after deletions alone the whole store is the same, its numbers too
  pub same_go : (ds es : List Call) (x y : State) → LeftBy IsDeletion Leaves ds x → LeftBy IsDeletion Leaves es y → SameHeld x y → x ≡ y
  -- so after the same deletions "in any order", however often each
  pub any_order : (ds es : List Call) (x y : State) → LeftBy IsDeletion Leaves ds x → LeftBy IsDeletion Leaves es y → SameCalls ds es → x ≡ y
  -- whatever else is called between, requests included, catalogue and areas are the same
  pub no_keep : (ds es : List Call) (x y : State) → LeftBy IsNoKeep Leaves ds x → LeftBy IsNoKeep Leaves es y → SameHeld x y → SameFiles x y

-- after every list of calls
abbrev pub OrderOfDeletions : Type 0
OrderOfDeletions = AfterEveryList (λ st. OrderIsFree (λ cs x. x ≡ run st cs))

-- and of calls that are made, `Ran st cs` being the stores that they leave
abbrev pub OrderOfDeletionsBy : (From : Start → List Call → State → Type 0) (Ran : State → List Call → State → Type 0) → Type 0
OrderOfDeletionsBy From Ran = (s : Start) (cs : List Call) (st : State) → StartFits s → AllFit cs → From s cs st → OrderIsFree (Ran st)

abbrev pub CodeOrderOfDeletions : Type 0
CodeOrderOfDeletions = OrderOfDeletionsBy RanFrom Ran
