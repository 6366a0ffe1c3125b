-- `filing::keep` meets its promise: what the questions tell is answered, and where they forbid nothing the file is kept. Assumes
-- nothing.
use mathlib.Core.Path.{refl}
use Rattle.tables.proofs.Answers.{ready_of}
use Rattle.filing.proofs.Keeps.{refused_keeps, answered_keeps}
use Rattle.filing.proofs.keep.Goals as goal

pub returns-in-Err : goal.returns-in-Err
returns-in-Err c =
    let a = c.args in
    refused_keeps a.l a.c a.areas.now a.t a.mark a.at c.not_kept.ensures (c.in-Err.ensures.asked a.areas.now refl)

pub keep_file-rows-requires : goal.keep_file-rows-requires
keep_file-rows-requires c =
    let can = c.in_default.ensures.keepable refl in
    record { ready = ready_of can.fit can.held refl; files_bound = (can.files_few, c.requires); files_in_bounds = can.area_room }

pub returns : goal.returns
returns c =
    let a = c.args in
    let told = c.in_default.ensures in
    let can = told.keepable refl in
    answered_keeps a.l a.c a.areas.now a.t a.mark a.at c.keep_file-rows.result c.counted.ensures c.requires can.entry_room
    (told.asked a.areas.now refl)
    (λ catalogue same place few. c.keep_file-rows.ensures catalogue a.mark same place few)
