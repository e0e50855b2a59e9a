use Rattle.std.proofs.Common.{◌<◌, arith}
use Rattle.split_bus.specs.TreeModel.Turns.Children.{loses}
use Rattle.item_states.specs.Parts.{node_items}
use Rattle.split_bus.specs.Children.{full_to_hear}
use Rattle.split_bus.specs.declared.hearers.Hearers.TheVariants.{LoseAll}
use Rattle.split_bus.proofs.Loops.{told-all, told-none, told-next, told-done}
use Rattle.split_bus.proofs.told.lose_all.Goals as goal

pub lose-requires-clause-in_range : goal.lose-requires-clause-in_range
lose-requires-clause-in_range g c = told-all g.C.Agent.value (loses c.args.item c.args.stamp) c.loop-i.children c.args.children.now c.loop-i.i c.index-children-i.result (omega arith) (omega arith) c.loop-i.invariant (λ n. c.args.item < node_items n) c.requires.have

pub lose-requires-clause-room : goal.lose-requires-clause-room
lose-requires-clause-room g c = told-none g.C.Agent.value (loses c.args.item c.args.stamp) c.loop-i.children c.args.children.now c.loop-i.i c.index-children-i.result (omega arith) (omega arith) c.loop-i.invariant (full_to_hear LoseAll c.args.item) c.requires.room

pub loop-i-preserved : goal.loop-i-preserved
loop-i-preserved g c = told-next g.C.Agent.value (loses c.args.item c.args.stamp) c.loop-i.children c.args.children.now c.loop-i.i c.index-children-i.result (omega arith) (omega arith) c.loop-i.invariant c.lose.new.self c.lose.ensures

pub returns : goal.returns
returns g c = told-done g.C.Agent.value (loses c.args.item c.args.stamp) c.loop-i.children c.args.children.now c.loop-i.i c.loop-i.invariant (omega arith)
