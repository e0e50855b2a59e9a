use Rattle.std.proofs.Common.{◌<◌, arith}
use Rattle.std.proofs.lemmas.Grind.{common_steps}
use Rattle.item_states.specs.Parts.{node_items}
use Rattle.split_bus.specs.Children.{is_sought}
use Rattle.split_bus.proofs.Loops.{here-all, find_from-next}
use Rattle.split_bus.proofs.sought.find.Goals as goal

pub is_sought-requires : goal.is_sought-requires
is_sought-requires g c =
    here-all g.C.Agent.value c.args.children.now c.loop-i.i c.index-children-i.result (omega arith) c.index-children-i.is (λ n. c.args.item < node_items n) c.requires.have

pub returns-then-is_sought-clause-value : goal.returns-then-is_sought-clause-value
returns-then-is_sought-clause-value g c =
    let next = find_from-next g.C.Agent.value c.args.children.now c.loop-i.i c.index-children-i.result (omega arith) c.index-children-i.is (is_sought c.args.sought.now c.args.item) in
    grind (arith, common_steps)

pub loop-i-preserved : goal.loop-i-preserved
loop-i-preserved g c =
    let next = find_from-next g.C.Agent.value c.args.children.now c.loop-i.i c.index-children-i.result (omega arith) c.index-children-i.is (is_sought c.args.sought.now c.args.item) in
    grind (arith, common_steps)
