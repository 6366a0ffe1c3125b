-- `lending::lengths_for` meets its contract: the first no, or the lengths. Assumes nothing.
use Rattle.std.proofs.lemmas.Result.{err_from_is_err_and}
use mathlib.Core.Path.{ap, ◌∙◌}
use mathlib.Core.List.{[], ◌∷◌}
use native.Mathlib.Omega.{arith}
use lib.Dec.{leb}
use borrow.Author.Tests.{le-leb, lt-leb}
use Rattle.model.specs.declared.Settings.{Settings}
use Rattle.model.specs.Answers.{Outcome, answers, refusal, question, first_no, outcome_of}
use Rattle.model.specs.Settings.{records_in_range}
use Rattle.model.proofs.SettingsLaws.{passed, stopped}
use Rattle.lending.specs.declared.Lengths.{Lengths}
use Rattle.lending.specs.Lengths.{lengths_for, lengths_of}
use Rattle.lending.proofs.lengths_for.Goals as goal

pub returns-then-records-gt-RECORDS_MAX : goal.returns-then-records-gt-RECORDS_MAX
unfolding lengths_of refusal first_no records_in_range
returns-then-records-gt-RECORDS_MAX c =
    let a = c.args in
    let ok = passed a.order a.page a.limit _ (rw c.in_ok-s.was at c.checked.ensures) in
    rw (ok.go_on, lt-leb a.records 65536 (omega arith))

pub returns-then-files-gt-FILES_MAX : goal.returns-then-files-gt-FILES_MAX
unfolding lengths_of refusal first_no records_in_range
returns-then-files-gt-FILES_MAX c =
    let a = c.args in
    let ok = passed a.order a.page a.limit _ (rw c.in_ok-s.was at c.checked.ensures) in
    rw (ok.go_on, le-leb a.records 65536 (omega arith), lt-leb a.files 16 (omega arith))

pub lengths_in_range-requires : goal.lengths_in_range-requires
lengths_in_range-requires c =
    let a = c.args in
    let ok = passed a.order a.page a.limit _ (rw c.in_ok-s.was at c.checked.ensures) in
    record { settings_fit = ok.fitting; records_bound = omega arith; files_bound = omega arith }

pub returns : goal.returns
unfolding lengths_of first_no records_in_range
returns c =
    let a = c.args in
    let ok = passed a.order a.page a.limit _ (rw c.in_ok-s.was at c.checked.ensures) in
    rw (ok.go_on, le-leb a.records 65536 (omega arith), le-leb a.files 16 (omega arith))
    (ap answers
    (c.lengths_in_range.ensures ∙ ap (λ (s : Settings). lengths_for s.order s.page s.limit a.records a.files) ok.settings_are))

pub returns-in_err-s : goal.returns-in_err-s
unfolding lengths_of records_in_range
returns-in_err-s c =
    let a = c.args in
    let p = err_from_is_err_and c.from_residual.result c.from_residual.ensures.1 in
    rw (p.1, p.2)
    (stopped a.order a.page a.limit _ (rw c.in_err-s.was at c.checked.ensures) (λ (o : Outcome Lengths). o)
    (question 5 (leb a.records 65536) ∷ question 15 (leb a.files 16) ∷ []) _)
