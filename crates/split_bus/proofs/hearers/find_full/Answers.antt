use Rattle.std.proofs.Common.{◌<◌, ◌≡◌, true, false, is_some, arith}
use Rattle.item_states.specs.Parts.{node_items}
use Rattle.split_bus.specs.Children.{full_to_hear}
use Rattle.split_bus.proofs.Loops.{here-all, first_given-here, first_given-past}
use Rattle.split_bus.proofs.hearers.find_full.Goals as goal

pub full_to_hear-full-requires-clause-has : goal.full_to_hear-full-requires-clause-has
full_to_hear-full-requires-clause-has g c =
    here-all g.C.Agent.value c.args.children.now c.loop-i.i c.index-children-i.result (omega arith) c.index-children-i.is (λ n. c.args.item < node_items n) c.requires.have

pub returns-then-is_some : goal.returns-then-is_some
returns-then-is_some g c =
    let gives : is_some (full_to_hear c.args.hearers.now c.args.item c.loop-i.i (g.C.Agent.value c.index-children-i.result)) ≡ true = cc in
    let here = first_given-here g.C.Agent.value c.args.children.now c.loop-i.i c.index-children-i.result (omega arith) c.index-children-i.is (full_to_hear c.args.hearers.now c.args.item) gives in
    cc

pub loop-i-preserved : goal.loop-i-preserved
loop-i-preserved g c =
    let not : is_some (full_to_hear c.args.hearers.now c.args.item c.loop-i.i (g.C.Agent.value c.index-children-i.result)) ≡ false = cc in
    rw c.loop-i.invariant (first_given-past g.C.Agent.value c.args.children.now c.loop-i.i c.index-children-i.result (omega arith) c.index-children-i.is (full_to_hear c.args.hearers.now c.args.item) not)
