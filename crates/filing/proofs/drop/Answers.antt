-- `filing::drop` meets its promise: each refusal is the first question answered no, and else the file is dropped. Assumes
-- nothing.
use mathlib.Core.Path.{refl, sym}
use Rattle.model.specs.Answers.{refusal}
use Rattle.filing.proofs.Drops.{drop-header, drop-none, drop_answered}
use Rattle.filing.proofs.drop.Goals as goal

pub returns-then-not-is_sound : goal.returns-then-not-is_sound
unfolding refusal
returns-then-not-is_sound c index long =
    let a = c.args in
    rw c.not_dropped.ensures (drop-header a.s a.log.now index a.current.now a.x a.areas.now a.t (rw long (sym c.if-not-is_sound.ensures.is)))

pub returns-then-x-s : goal.returns-then-x-s
unfolding refusal
returns-then-x-s c index long =
    let fit = c.if-not-is_sound.ensures.means refl in
    let a = c.args in
    rw c.not_dropped-then-x-s.ensures
    (drop-none a.s a.log.now index a.current.now a.x a.areas.now (rw long (sym c.if-not-is_sound.ensures.is)) fit.files_sixteen fit.files_lent a.t c.if-x-s.true)

pub returns : goal.returns
returns c index long =
    let fit = c.if-not-is_sound.ensures.means refl in
    let a = c.args in
    drop_answered a.s a.log.now index a.current.now a.x a.areas.now (rw long (sym c.if-not-is_sound.ensures.is)) fit.files_sixteen fit.files_lent a.t c.if-x-s.false c.let_go.ensures
