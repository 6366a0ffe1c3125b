-- A refusal's number read again is that refusal: 17 comes with a record number, and every other number alone. Assumes nothing.
use mathlib.Core.Path.{◌≡◌, refl, sym, ◌∙◌}
use mathlib.Core.Bool.{false, cond, false≢true}
use mathlib.Core.List.{List}
use lib.Dec.{eqb}
use Rattle.model.specs.declared.Refusal.{Refusal}
use Rattle.model.specs.declared.Refusal.TheVariants.{Header, Order, PageSize, RowLimit, Memory, TimeNotAbove, ArticlePresent, ArticleAbsent, RowsFull, LogFull, IndexFull, TimeAfterLast, OutputShort, NotToKeep, CatalogueFull, NotKept, WrongRecord, WrongMark}
use Rattle.model.specs.Answers.{refuses_at, Question, asks, refusal}
use Rattle.model.specs.Promises.{refused_number, FirstNoRefuses}
use Rattle.model.proofs.PromiseLaws.{not_first}
use Rattle.answers.specs.Question.{record_in, number_of, record_of}
use Rattle.exported.specs.Readings.{read}

-- what is read of a refusal, and its number, whatever the call would have answered
record Reads (A : Type 0) (x : A) (why : Refusal) : Type 0 where
  number : refused_number (refusal {A = A} why) ≡ number_of why
  alone : eqb (number_of why) 17 ≡ false → read (number_of why) x ≡ refusal {A = A} why

reads : (A : Type 0) (x : A) (why : Refusal) → Reads A x why
unfolding refusal refused_number read
reads A x Header = record { number = refl; alone = λ e. refl }
reads A x Order = record { number = refl; alone = λ e. refl }
reads A x PageSize = record { number = refl; alone = λ e. refl }
reads A x RowLimit = record { number = refl; alone = λ e. refl }
reads A x Memory = record { number = refl; alone = λ e. refl }
reads A x TimeNotAbove = record { number = refl; alone = λ e. refl }
reads A x ArticlePresent = record { number = refl; alone = λ e. refl }
reads A x ArticleAbsent = record { number = refl; alone = λ e. refl }
reads A x RowsFull = record { number = refl; alone = λ e. refl }
reads A x LogFull = record { number = refl; alone = λ e. refl }
reads A x IndexFull = record { number = refl; alone = λ e. refl }
reads A x TimeAfterLast = record { number = refl; alone = λ e. refl }
reads A x OutputShort = record { number = refl; alone = λ e. refl }
reads A x NotToKeep = record { number = refl; alone = λ e. refl }
reads A x CatalogueFull = record { number = refl; alone = λ e. refl }
reads A x NotKept = record { number = refl; alone = λ e. refl }
reads A x (WrongRecord k) = record { number = refl; alone = λ e. absurd (false≢true (sym e)) }
reads A x WrongMark = record { number = refl; alone = λ e. refl }

-- with its record number at 17
pub whole-read : (why : Refusal) → cond (eqb (number_of why) 17) (refuses_at 17 (record_of why)) (read (number_of why) tt) ≡ refusal {A = Unit} why
unfolding refusal refused_number record_in read
whole-read Header = refl
whole-read Order = refl
whole-read PageSize = refl
whole-read RowLimit = refl
whole-read Memory = refl
whole-read TimeNotAbove = refl
whole-read ArticlePresent = refl
whole-read ArticleAbsent = refl
whole-read RowsFull = refl
whole-read LogFull = refl
whole-read IndexFull = refl
whole-read TimeAfterLast = refl
whole-read OutputShort = refl
whole-read NotToKeep = refl
whole-read CatalogueFull = refl
whole-read NotKept = refl
whole-read (WrongRecord k) = refl
whole-read WrongMark = refl

-- where 17 is none of the questions asked
pub first_read : (A : Type 0) (x : A) (qs : List Question) (why : Refusal) → asks 17 qs ≡ false → FirstNoRefuses qs (refusal {A = A} why) → read (number_of why) x ≡ refusal {A = A} why
first_read A x qs why e h = let r = reads A x why in r.alone (rw (sym r.number ∙ h) (not_first 17 refl qs e))
