-- `filing::ask_keep` meets its contract: each refusal is the first question answered no, and else none is. Assumes nothing.
use Prim.Native.Nat.{◌+◌}
use mathlib.Core.Path.{◌≡◌, refl, sym}
use mathlib.Core.List.{List}
use mathlib.Core.Bool.{true}
use native.Mathlib.Omega.{arith}
use Rattle.std.proofs.lemmas.Result.{err_from_is_err_and}
use Rattle.model.specs.declared.Entry.{Entry}
use Rattle.model.specs.Answers.{refusal}
use Rattle.model.specs.Memory.{sound}
use Rattle.pages.specs.Lent.{store_lent}
use Rattle.catalogue.specs.Candidates.{candidates_in}
use Rattle.limits.proofs.FitLaws.{capacity_sixteen, capacity_entries, capacity_areas}
use Rattle.filing.proofs.Keeps.{keep_header, keep_late, keep_wrong_mark, keep_zero, keep_twice, keep_full, keep_asks-none}
use Rattle.filing.proofs.ask_keep.Goals as goal
use Rattle.filing.proofs.ask_keep.Goals.{then-t-eq0-via-then-t-eq0, then-t-eq0-via-else-t-eq0+then-c-t}

pub returns-in_err-ask_sound-clause-asked : goal.returns-in_err-ask_sound-clause-asked
unfolding refusal
returns-in_err-ask_sound-clause-asked c area long =
    let a = c.args in
    let p = err_from_is_err_and c.from_residual.result c.from_residual.ensures.1 in
    rw (p.1, p.2, c.in_err-ask_sound.ensures.means)
    (λ catalogue same. (0, refl, keep_header a.l a.c area a.t a.mark (λ es e. sym (c.in_err-ask_sound.ensures.is es area (rw e) long)) catalogue same))

pub returns-then-s-t-clause-asked : goal.returns-then-s-t-clause-asked
unfolding refusal
returns-then-s-t-clause-asked c area long catalogue same =
    let a = c.args in
    (11, refl, keep_late a.l a.c area a.t a.mark (λ es e. sym (c.in_ok-ask_sound.ensures.is es area (rw e) long)) c.if-s-t.true catalogue same)

pub returns-then-not-is_mark-clause-asked : goal.returns-then-not-is_mark-clause-asked
unfolding refusal
returns-then-not-is_mark-clause-asked c area long catalogue same =
    let a = c.args in
    (17, refl, keep_wrong_mark a.l a.c area a.t a.mark (λ es e. sym (c.in_ok-ask_sound.ensures.is es area (rw e) long)) c.if-s-t.false (sym c.if-not-is_mark.ensures) catalogue same)

pub returns-then-t-eq0-clause-asked : goal.returns-then-t-eq0-clause-asked
unfolding refusal
returns-then-t-eq0-clause-asked c area long catalogue same =
    let a = c.args in
    let yes : (es : List Entry) → a.c ≡ candidates_in a.l.numbers a.t es → sound (store_lent a.l es area) ≡ true =
    λ es e. sym (c.in_ok-ask_sound.ensures.is es area (rw e) long) in
    let sixteen = c.in_ok-ask_sound.ensures.means.files_sixteen in (
      13,
      refl,
      elim c.then-t-eq0.branch [
        | then-t-eq0-via-then-t-eq0 w ↦ keep_zero a.l a.c area a.t a.mark yes c.if-s-t.false (sym c.if-not-is_mark.ensures) w.if-t-eq0.true catalogue same
        | then-t-eq0-via-else-t-eq0+then-c-t w ↦ keep_twice a.l a.c area a.t a.mark yes c.if-s-t.false (sym c.if-not-is_mark.ensures) w.if-t-eq0.false sixteen w.if-c-t.true catalogue same
      ],
    )

pub returns-then-s-capacity-clause-asked : goal.returns-then-s-capacity-clause-asked
unfolding refusal
returns-then-s-capacity-clause-asked c area long catalogue same =
    let a = c.args in
    let full = rw c.capacity.ensures.is at c.if-s-capacity.true in (
      14,
      refl,
      keep_full a.l a.c area a.t a.mark (λ es e. sym (c.in_ok-ask_sound.ensures.is es area (rw e) long)) c.if-s-t.false (sym c.if-not-is_mark.ensures) c.if-t-eq0.false
          c.in_ok-ask_sound.ensures.means.files_sixteen c.if-c-t.false (rw long full) catalogue same,
    )

pub returns-clause-asked : goal.returns-clause-asked
returns-clause-asked c area long catalogue same =
    let a = c.args in
    let room = rw c.capacity.ensures.is at c.if-s-capacity.false in
    keep_asks-none a.l a.c area a.t a.mark (λ es e. sym (c.in_ok-ask_sound.ensures.is es area (rw e) long)) c.if-s-t.false (sym c.if-not-is_mark.ensures) c.if-t-eq0.false
    c.in_ok-ask_sound.ensures.means.files_sixteen c.if-c-t.false (rw long room) catalogue same

pub returns-clause-keepable : goal.returns-clause-keepable
returns-clause-keepable c ok =
    let a = c.args in
    let fit = c.in_ok-ask_sound.ensures.means in
    let files = a.l.numbers.files in
    let room = rw c.capacity.ensures.is at c.if-s-capacity.false in
    record {
      fit = fit;
      held = c.if-s-t.false;
      files_few = omega (arith, capacity_sixteen a.l.numbers.limit a.c.lent a.areas (files + 1) (omega (arith, room)));
      entry_room = capacity_entries a.l.numbers.limit a.c.lent a.areas (files + 1) (omega (arith, room));
      area_room = capacity_areas a.l.numbers.limit a.c.lent a.areas (files + 1) (omega (arith, room)) fit.in_range.limit_low;
    }
