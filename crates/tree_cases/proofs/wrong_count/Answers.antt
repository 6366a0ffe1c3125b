-- `tree_cases::wrong_count` is safe. Assumes nothing.
use Rattle.tree.proofs.Stretches.{one_room}
use Rattle.tree_cases.proofs.wrong_count.Goals as goal

pub keys_up_to-found-requires : goal.keys_up_to-found-requires
keys_up_to-found-requires c = one_room c.args.d c.one_stretch.result c.one_stretch.ensures.nodes c.requires
