-- The position of a time (01, "Packed tree"; 02, wish 5): its page and its number of requests. `position_in` and `position_at`
-- are what contracts cite; `PageAndCount` says of every record of a log what ties the two numbers. Assumes nothing.
use Rattle.std.specs.Prelude.{ℕ, suc, ◌+◌, ◌-◌, ◌*◌, ◌≤◌, ◌<◌, ◌≡◌, ◌↔◌, List, true, length, get_or}
use Rattle.model.specs.declared.Position.{Position}
use Rattle.model.specs.Records.{Rec, no_record}
use Rattle.model.specs.Legal.{legal}
use Rattle.model.specs.Pages.{page_times, records_up_to}
use Rattle.model.specs.Tree.{page_position}
use Rattle.model.specs.Memory.{State, log_of}

-- "A position shall answer the page and the number of requests (records, so two for an update) at or before the time"
abbrev pub position_in : ℕ → List Rec → ℕ → Position
position_in N rs t = record { page = record { 0 = page_position (page_times N rs) t }; requests = records_up_to t rs }

-- in a store's log
abbrev pub position_at : State → ℕ → Position
position_at st t = position_in st.numbers.page (log_of st) t

-- ---- page and count, record by record

abbrev pub time_of : List Rec → ℕ → ℕ
time_of rs i = (get_or rs i no_record).time

-- "Page p holds records p × N to p × N + N − 1"
abbrev pub OnPage : (N p k : ℕ) → Type 0
OnPage N p k = (p * N ≤ k) × (k < p * N + N)

-- the records counted are those at or before t, which stand first; the last of them is on the page, and where there is
-- none the page is 0
pub record PageAndCount (N : ℕ) (rs : List Rec) (t : ℕ) (p : Position) : Type 0 where
  pub within : p.requests ≤ length rs
  pub counted : (i : ℕ) → i < length rs → (i < p.requests) ↔ (time_of rs i ≤ t)
  pub on_page : (k : ℕ) → p.requests ≡ suc k → OnPage N p.page.0 k
  pub page_zero : p.requests ≡ 0 → p.page.0 ≡ 0

-- so it is in every legal log
abbrev pub PageTiedToCount : Type 0
PageTiedToCount = (N R : ℕ) (rs : List Rec) (t : ℕ) → 2 ≤ N → legal R rs ≡ true → PageAndCount N rs t (position_in N rs t)

-- and in no other position
abbrev pub PageAndCountAreOne : Type 0
PageAndCountAreOne =
    (N : ℕ) (rs : List Rec) (t : ℕ) (p q : Position) → PageAndCount N rs t p → PageAndCount N rs t q → p ≡ q

-- "which is 0 before the first": there and nowhere else, though a time on the first page has page 0 too
abbrev pub NoneBeforeFirst : Type 0
NoneBeforeFirst =
    (N R : ℕ) (rs : List Rec) (t : ℕ) → legal R rs ≡ true → ((position_in N rs t).requests ≡ 0) ↔ ((i : ℕ) → i < length rs → t < time_of rs i)

-- "two for an update": where its first record ends page p and its second begins the next, both are counted, on that page
abbrev pub SplitUpdateCountsBoth : Type 0
SplitUpdateCountsBoth =
    (N R : ℕ) (rs : List Rec) (p : ℕ) → 2 ≤ N → legal R rs ≡ true
    → let k = suc p * N in k < length rs → time_of rs (k - 1) ≡ time_of rs k
    → position_in N rs (time_of rs k) ≡ record { page = record { 0 = suc p }; requests = suc k }
