-- How much memory to lend for order d, page size N, row limit R, n records and f count files. `lengths_of`
-- is what the contract cites. Assumes nothing.
use Rattle.std.specs.Prelude.{ℕ, ◌+◌, ◌*◌, List, [], ◌∷◌, ◌++◌, leb, Ok, Err}
use Rattle.model.specs.Answers.{Outcome, answers, refuses, refusal, Question, question, first_no, unless_no, Answer, outcome_of}
use Rattle.model.specs.Settings.{records_in_range, settings_questions}
use Rattle.model.specs.Pages.{index_need}
use Rattle.lending.specs.declared.Lengths.{Lengths}

-- 2, 3, 4, then 01's limits of records and of files, with the numbers of the questions that a call would refuse them by
abbrev pub lengths_questions : (d N R n f : ℕ) → List Question
lengths_questions d N R n f = settings_questions d N R ++ (question 5 (records_in_range n) ∷ question 15 (leb f 16) ∷ [])

-- header and records; the nodes then needed; a table, and one for each file; a net change, and the two tables it is made of
abbrev pub lengths_for : (d N R n f : ℕ) → Lengths
lengths_for d N R n f =
    record {
      log = 24 + 24 * n;
      index = index_need d N n;
      table = 8 * R;
      entries = f;
      areas = 8 * R * f;
      output = 24 * R;
      workspace = 16 * R;
    }

unfoldable pub lengths_of : (d N R n f : ℕ) → Outcome Lengths
lengths_of d N R n f = unless_no (first_no (lengths_questions d N R n f)) (answers (lengths_for d N R n f)) refuses
