-- Settings and limits (01, "Log bytes": "Order 2 to 64, records per page 2 to 64 and row limit 1 to 1,024",
-- "At most 65,536 records"). Assumes nothing.
use Rattle.std.specs.Prelude.{ℕ, ◌≤◌, List, [], ◌∷◌, Bool, ◌&&◌, leb}
use Rattle.model.specs.declared.Settings.{Settings}
use Rattle.model.specs.Answers.{Outcome, answers, refuses, Question, question, first_no, unless_no}

unfoldable pub order_in_range : ℕ → Bool
order_in_range d = leb 2 d && leb d 64

unfoldable pub page_size_in_range : ℕ → Bool
page_size_in_range N = leb 2 N && leb N 64

unfoldable pub row_limit_in_range : ℕ → Bool
row_limit_in_range R = leb 1 R && leb R 1024

-- settings within their limits, as facts
pub record SettingsFit (d N R : ℕ) : Type 0 where
  pub order_low : 2 ≤ d
  pub order_high : d ≤ 64
  pub page_low : 2 ≤ N
  pub page_high : N ≤ 64
  pub limit_low : 1 ≤ R
  pub limit_high : R ≤ 1024

unfoldable pub records_in_range : ℕ → Bool
records_in_range n = leb n 65536

-- questions 2, 3 and 4
abbrev pub settings_questions : ℕ → ℕ → ℕ → List Question
settings_questions d N R = question 2 (order_in_range d) ∷ question 3 (page_size_in_range N) ∷ question 4 (row_limit_in_range R) ∷ []

unfoldable pub settings_of : ℕ → ℕ → ℕ → Outcome Settings
settings_of d N R =
    unless_no (first_no (settings_questions d N R)) (answers (record { order = d; page = N; limit = R })) refuses
