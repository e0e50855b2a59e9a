use Rattle.part_tests.proofs.TreeModel.LeafRooms.{leaf_within-facts, leaf_within-test, leaf_take_inject-within}
use Rattle.leaf_protocol.proofs.Told.{same-leaf}
use Rattle.part_tests.proofs.with_leaf_protocol.inject.Goals as goal

pub returns : goal.returns
returns c =
    let after = same-leaf c.take_inject.new.self _ c.take_inject.ensures in
    rw after (leaf_within-test 3 _ (leaf_take_inject-within 3 c.args.item _ c.args.leaf.now (leaf_within-facts 3 c.args.leaf.now c.requires.within)))
