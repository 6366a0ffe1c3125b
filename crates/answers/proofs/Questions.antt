-- 17 is the number of a wrong record and of no other refusal. Assumes nothing.
use mathlib.Core.Path.{◌≡◌, refl}
use native.Mathlib.Omega.{arith}
use Rattle.model.specs.declared.Refusal.{Refusal}
use Rattle.model.specs.declared.Refusal.TheVariants.{Header, Order, PageSize, RowLimit, Memory, TimeNotAbove, ArticlePresent, ArticleAbsent, RowsFull, LogFull, IndexFull, TimeAfterLast, OutputShort, NotToKeep, CatalogueFull, NotKept, WrongRecord, WrongMark}
use Rattle.model.specs.Answers.{refuses_at, refusal}
use Rattle.model.specs.Promises.{refused_number}
use Rattle.answers.specs.Question.{record_in, number_of, record_of}

pub wrong_record_at-17 : {A : Type 0} (why : Refusal) → number_of why ≡ 17 → refusal {A = A} why ≡ refuses_at 17 (record_of why)
unfolding refusal refused_number record_in
wrong_record_at-17 Header e = absurd (omega arith)
wrong_record_at-17 Order e = absurd (omega arith)
wrong_record_at-17 PageSize e = absurd (omega arith)
wrong_record_at-17 RowLimit e = absurd (omega arith)
wrong_record_at-17 Memory e = absurd (omega arith)
wrong_record_at-17 TimeNotAbove e = absurd (omega arith)
wrong_record_at-17 ArticlePresent e = absurd (omega arith)
wrong_record_at-17 ArticleAbsent e = absurd (omega arith)
wrong_record_at-17 RowsFull e = absurd (omega arith)
wrong_record_at-17 LogFull e = absurd (omega arith)
wrong_record_at-17 IndexFull e = absurd (omega arith)
wrong_record_at-17 TimeAfterLast e = absurd (omega arith)
wrong_record_at-17 OutputShort e = absurd (omega arith)
wrong_record_at-17 NotToKeep e = absurd (omega arith)
wrong_record_at-17 CatalogueFull e = absurd (omega arith)
wrong_record_at-17 NotKept e = absurd (omega arith)
wrong_record_at-17 (WrongRecord k) e = refl
wrong_record_at-17 WrongMark e = absurd (omega arith)
