use Rattle.std.proofs.Common.{◌<◌}
use Rattle.item_states.specs.Parts.{node_items}
use Rattle.split_bus.proofs.Loops.{here-all}
use Rattle.split_bus.proofs.children.child.Goals as goal

pub returns-clause-has : goal.returns-clause-has
returns-clause-has g c = here-all g.C.Agent.value c.args.children.now c.args.c c.index-children-c.result c.requires.within (rw c.c.view_is at c.index-children-c.is) (λ n. c.args.item < node_items n) c.requires.have
