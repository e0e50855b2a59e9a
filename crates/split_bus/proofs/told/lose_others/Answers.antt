use Rattle.std.proofs.Common.{◌<◌, arith}
use Rattle.split_bus.specs.TreeModel.Turns.Children.{erased_by}
use Rattle.item_states.specs.Parts.{node_items}
use Rattle.split_bus.specs.Children.{full_to_hear}
use Rattle.split_bus.specs.declared.hearers.Hearers.TheVariants.{LoseOthers}
use Rattle.split_bus.proofs.Loops.{told-all, told-none, told-next, told-done}
use Rattle.split_bus.proofs.told.lose_others.Goals as goal

pub lose_one-requires-clause-has : goal.lose_one-requires-clause-has
lose_one-requires-clause-has g c = told-all g.C.Agent.value (erased_by c.args.c c.args.item c.args.stamp) c.loop-i.children c.args.children.now c.loop-i.i c.index-children-i.result (omega arith) (omega arith) c.loop-i.invariant (λ n. c.args.item < node_items n) c.requires.have

pub lose_one-requires-clause-room : goal.lose_one-requires-clause-room
lose_one-requires-clause-room g c = told-none g.C.Agent.value (erased_by c.args.c c.args.item c.args.stamp) c.loop-i.children c.args.children.now c.loop-i.i c.index-children-i.result (omega arith) (omega arith) c.loop-i.invariant (full_to_hear (LoseOthers c.args.c) c.args.item) c.requires.room

pub loop-i-preserved : goal.loop-i-preserved
loop-i-preserved g c = told-next g.C.Agent.value (erased_by c.args.c c.args.item c.args.stamp) c.loop-i.children c.args.children.now c.loop-i.i c.index-children-i.result (omega arith) (omega arith) c.loop-i.invariant c.lose_one.new.child c.lose_one.ensures

pub returns : goal.returns
returns g c = told-done g.C.Agent.value (erased_by c.args.c c.args.item c.args.stamp) c.loop-i.children c.args.children.now c.loop-i.i c.loop-i.invariant (omega arith)
