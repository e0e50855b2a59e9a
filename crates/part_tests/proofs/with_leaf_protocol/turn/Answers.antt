use Rattle.part_tests.proofs.TreeModel.HartRooms.{leaf_step-within}
use Rattle.part_tests.proofs.with_leaf_protocol.turn.Goals as goal

pub returns : goal.returns
returns c = rw c.hart_turn.ensures.after (leaf_step-within 3 _ _ _ _ c.args.leaf.now c.requires.within)
