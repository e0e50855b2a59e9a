use Rattle.std.proofs.Common.{◌<◌}
use Rattle.ddm_tree.specs.ItemStates.Parts.{node_items}
use Rattle.ddm_tree.proofs.Search.{here-all}
use Rattle.ddm_tree.proofs.judging.children_facts.Goals as goal

pub with_child-requires-clause-in_range : goal.with_child-requires-clause-in_range
with_child-requires-clause-in_range g c = here-all g.C.Agent.value c.args.children.now c.loop-i.i c.index-children-i.result c.loop-i-test.true c.index-children-i.is (λ n. c.args.item < node_items n) c.requires.kept
