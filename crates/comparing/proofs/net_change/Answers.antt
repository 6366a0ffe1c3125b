-- `comparing::net_change` meets its promise: each refusal is the first question answered no, the first 16 × R bytes of the
-- workspace are the two tables, and the first 24 × R bytes of the output are merged from them. Assumes nothing.
use Prim.Native.Nat.{◌*◌}
use mathlib.Core.Path.{◌≡◌, refl, sym, ◌∙◌}
use mathlib.Core.Logic.{inl, inr}
use native.Mathlib.Omega.{arith}
use lib.ListN.{length, take}
use lib.Seq.{length-take-le}
use Rattle.std.proofs.lemmas.Result.{err_from_is_err_and}
use Rattle.model.specs.Answers.{refusal}
use Rattle.model.specs.Queries.{answered_time}
use Rattle.pages.specs.Lent.{store_lent}
use Rattle.tables.proofs.Answers.{lent_is, ready_of}
use Rattle.comparing.proofs.Answers.{net_header, net_short, net_answers}
use Rattle.comparing.proofs.net_change.Goals.{then-out-size-via-then-out-size, then-out-size-via-else-out-size+then-work-space}
use Rattle.comparing.proofs.net_change.Goals as goal

pub returns-in_err-ask_sound : goal.returns-in_err-ask_sound
unfolding refusal
returns-in_err-ask_sound c catalogue e f =
    let x = c.args in
    let p = err_from_is_err_and c.from_residual.result c.from_residual.ensures.1 in
    rw (p.1, p.2, c.in_err-ask_sound.ensures.means)
    (net_header (store_lent x.l catalogue x.areas.now) x.a x.b x.out.now x.work.now (sym (c.in_err-ask_sound.ensures.is catalogue x.areas.now (lent_is e) refl)))

pub returns-then-out-size : goal.returns-then-out-size
unfolding refusal
returns-then-out-size c catalogue e f =
    let x = c.args in
    net_short (store_lent x.l catalogue x.areas.now) x.a x.b x.out.now x.work.now (sym (c.in_ok-ask_sound.ensures.is catalogue x.areas.now (lent_is e) refl))
    (elim c.then-out-size.branch [ then-out-size-via-then-out-size w ↦ inl (omega (arith, w.if-out-size.true)) | then-out-size-via-else-out-size+then-work-space w ↦ inr (omega (arith, w.if-work-space.true)) ])

pub work_out_both-n-requires : goal.work_out_both-n-requires
unfolding answered_time
work_out_both-n-requires c =
    let fit = c.in_ok-ask_sound.ensures.means in record {
      first_ready = ready_of fit (omega (arith, c.answered_time-from.ensures)) refl;
      second_ready = ready_of fit (omega (arith, c.answered_time-to.ensures)) refl;
      work_is = length-take-le (16 * c.args.l.numbers.limit) c.args.work.now (omega arith);
    }

pub returns : goal.returns
returns c catalogue e f =
    let x = c.args in
    let R = x.l.numbers.limit in
    let size : length (take (24 * R) x.out.now) ≡ 24 * R = length-take-le (24 * R) x.out.now (omega arith) in
    let space : length (take (16 * R) x.work.now) ≡ 16 * R = length-take-le (16 * R) x.work.now (omega arith) in
    net_answers (store_lent x.l catalogue x.areas.now) x.a x.b x.out.now x.work.now x.first x.second c.work_out_both-n.result c.merge_both-k.result c.answered_time-from.result c.answered_time-to.result _ _
    c.answered_time-from.ensures c.answered_time-to.ensures (c.work_out_both-n.auto.work ∙ space) (c.merge_both-k.auto.out ∙ size) c.work_out_both-n.ensures.bytes
    e f c.work_out_both-n.ensures.worked c.merge_both-k.ensures.merged
    (sym (c.in_ok-ask_sound.ensures.is catalogue x.areas.now (lent_is e) refl)) (omega arith) (omega arith)
    (omega (arith, c.merge_both-k.ensures.within, size))
