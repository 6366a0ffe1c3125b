-- `filing::drop_marked` meets its promise: each refusal is the first question answered no, and else the files of the mark go.
-- Assumes nothing.
use mathlib.Core.Path.{refl, sym}
use Rattle.model.specs.Answers.{refusal}
use Rattle.filing.proofs.Drops.{marked-header, marked_wrong, marked_answered}
use Rattle.filing.proofs.drop_marked.Goals as goal

pub returns-then-not-is_sound : goal.returns-then-not-is_sound
unfolding refusal
returns-then-not-is_sound c index long =
    let a = c.args in
    rw c.not_dropped.ensures (marked-header a.s a.log.now index a.current.now a.x a.areas.now a.mark (rw long (sym c.if-not-is_sound.ensures.is)))

pub returns-then-not-goes : goal.returns-then-not-goes
unfolding refusal
returns-then-not-goes c index long =
    let fit = c.if-not-is_sound.ensures.means refl in
    let a = c.args in
    rw c.not_dropped-then-not-goes.ensures
    (marked_wrong a.s a.log.now index a.current.now a.x a.areas.now (rw long (sym c.if-not-is_sound.ensures.is)) fit.files_sixteen fit.files_lent a.mark (sym c.if-not-goes.ensures))

pub returns : goal.returns
returns c index long =
    let fit = c.if-not-is_sound.ensures.means refl in
    let a = c.args in
    marked_answered a.s a.log.now index a.current.now a.x a.areas.now (rw long (sym c.if-not-is_sound.ensures.is)) fit.files_sixteen fit.files_lent a.mark (sym c.if-not-goes.ensures) c.let_go.ensures
