use Rattle.std.proofs.Common.{◌<◌, ◌≤◌, length, ap, sym, arith, rules}
use Rattle.std.proofs.lemmas.List.{append-nil, take_all}
use Rattle.outcomes.specs.DdmText.Adds.{◌▸◌}
use Rattle.outcomes.specs.TreeModel.State.Shape.{tree_counts}
use Rattle.outcomes.proofs.DdmTree.LeafList.{leaf-there}
use Rattle.outcomes.proofs.InspectorCrate.OneMore.{more-of}
use Rattle.outcomes.specs.AnyMachine.Any.{state_in}
use Rattle.outcome_model.specs.Outcome.{end_text, ends_text, outcome_of}
use Rattle.outcomes.proofs.Ends.{end-shown, ends-counted, ends_of}
use Rattle.outcomes.proofs.ending.push_ends.Goals as goal

pub loop-leaf-init : goal.loop-leaf-init
unfolding ends_text
loop-leaf-init g c = record { is = sym (append-nil c.args.out.now.items) }

pub hart-hart-requires : goal.hart-hart-requires
hart-hart-requires g c =
    let leaves = ap (λ n. n.leaves) c.counts-leaf-end.ensures.counts in
    let below : c.loop-leaf.leaf < (tree_counts (state_in c.args.machine.now).machine).leaves = omega (arith, leaves, c.loop-leaf-test.true) in
    (search rules, leaf-there c.loop-leaf.leaf (state_in c.args.machine.now).machine c.counts-leaf-end.ensures.shape below)

pub loop-leaf-preserved : goal.loop-leaf-preserved
unfolding ends_text
loop-leaf-preserved g c =
    let m = (state_in c.args.machine.now).machine in
    let shown = end-shown m c.loop-leaf.leaf c.hart-hart.result.now c.counts-leaf-end.ensures.shape c.hart-hart.ensures in
    rw (more-of (end_text m.ops) (ends_of m) c.loop-leaf.leaf _ shown) (c.loop-leaf.invariant ▸ rw (c.halted.ensures, c.ops.ensures) at c.in_ok-push_end.ensures)

pub returns : goal.returns
unfolding outcome_of
returns g c =
    let leaves = ap (λ n. n.leaves) c.counts-leaf-end.ensures.counts in
    let size = ends-counted (state_in c.args.machine.now).machine in
    let past : length (ends_of (state_in c.args.machine.now).machine) ≤ c.loop-leaf.leaf = omega (arith, leaves, size, c.loop-leaf-test.false) in
    rw (take_all c.loop-leaf.leaf (ends_of (state_in c.args.machine.now).machine) past) at c.loop-leaf.invariant
