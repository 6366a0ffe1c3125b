-- Through the contracts of `numbered::open` and `embed::yk_open`, what crosses to C tells the first wrong record (02, wish 4).
-- Assumes nothing.
use Rattle.std.specs.Prelude.{Ok, Err}
use Prim.Native.Nat.{ℕ}
use mathlib.Core.Path.{◌≡◌, sym, ap, ◌∙◌}
use mathlib.Core.Logic.{◌↔◌}
use native.Mathlib.Omega.{arith}
use Rattle.model.specs.declared.Numbers.{Numbers}
use Rattle.model.specs.Answers.{refuses_at, outcome_of, Answer}
use Rattle.model.specs.Starts.{After}
use Rattle.model.proofs.FirstWrongLaws.{tells_first_wrong}
use Rattle.model.specs.Promises.{refused_number}
use Rattle.answers.specs.Question.{record_in}
use Rattle.answers.proofs.Questions.{wrong_record_at-17}
use Rattle.numbered.specs.declared.answer.YkChange.{YkChange}
use Rattle.numbered.specs.Answers.{change_out}
use Rattle.numbered.specs.Crossed.{CrossedTellsFirstWrong}

-- an answer in numbers says 17 and k
abbrev Says : YkChange → ℕ → Type 0
Says r k = (r.question ≡ 17) × (r.«record» ≡ k)

says_iff : (s : Numbers) (v : Answer Unit) (k : ℕ) → Says (change_out s v) k ↔ (outcome_of v ≡ refuses_at 17 k)
unfolding change_out refused_number record_in
says_iff s (Ok u) k = (λ h. absurd (omega (arith, h.0)), λ e. (ap refused_number e, ap record_in e))
says_iff s (Err why) k = (λ h. wrong_record_at-17 why h.0 ∙ ap (refuses_at 17) h.1, λ e. (ap refused_number e, ap record_in e))

pub crossed_tells_first_wrong : CrossedTellsFirstWrong
crossed_tells_first_wrong m r memory' c k =
    let e = ap (λ (a : After). a.outcome) c.kept in
    let d = tells_first_wrong m k in
    let s = says_iff c.numbers c.verdict k in
    rw c.is (λ h. d.0 (sym e ∙ s.0 h), λ h. s.1 (e ∙ d.1 h))
