use Rattle.std.proofs.Common.{◌<◌, ◌≤◌, length, rules, ap, ◌∙◌, arith}
use Rattle.std.proofs.lemmas.List.{take_all}
use Rattle.inspector.specs.TreeModel.State.Shape.{tree_counts}
use Rattle.inspector.specs.TreeModel.Turns.Found.{states_of}
use Rattle.inspector.proofs.DdmTree.LeafList.{leaf-there}
use Rattle.inspector.proofs.LeafStates.{one-more, states-counted}
use Rattle.inspector.proofs.states.Goals as goal

pub state-requires : goal.state-requires
state-requires g c =
    let leaves = ap (λ n. n.leaves) c.counts-leaf-end.ensures.counts in
    let below : c.loop-leaf.leaf < (tree_counts c.args.machine.now.machine).leaves = omega (arith, leaves, c.loop-leaf-test.true) in
    (search rules, leaf-there c.loop-leaf.leaf c.args.machine.now.machine c.counts-leaf-end.ensures.shape below)

pub loop-leaf-preserved : goal.loop-leaf-preserved
loop-leaf-preserved g c = c.in_ok-push.ensures.items ∙ one-more c.args.machine.now.machine c.loop-leaf.leaf c.args.item c.state.result c.loop-leaf.states.items c.counts-leaf-end.ensures.shape c.state.ensures c.loop-leaf.invariant

pub returns : goal.returns
returns g c =
    let leaves = ap (λ n. n.leaves) c.counts-leaf-end.ensures.counts in
    let size = states-counted c.args.machine.now.machine c.args.item in
    let past : length (states_of c.args.item c.args.machine.now.machine) ≤ c.loop-leaf.leaf = omega (arith, leaves, size, c.loop-leaf-test.false) in
    c.loop-leaf.invariant ∙ take_all c.loop-leaf.leaf (states_of c.args.item c.args.machine.now.machine) past
