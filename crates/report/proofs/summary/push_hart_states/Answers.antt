use Rattle.std.proofs.Common.{◌<◌, ◌≤◌, length, ap, arith, rules}
use Rattle.std.proofs.lemmas.List.{take_all}
use Rattle.report.specs.DdmText.Adds.{◌▸◌}
use Rattle.report.specs.TreeModel.State.Shape.{tree_counts}
use Rattle.text_model.specs.Report.{hart_line_of}
use Rattle.report.proofs.DdmTree.LeafList.{leaf-there}
use Rattle.report.proofs.InspectorCrate.OneMore.{more-of}
use Rattle.any_machine.specs.Any.{state_in}
use Rattle.report.specs.MachineView.{harts_of}
use Rattle.report.proofs.MachineLines.{hart-shown, harts-counted}
use Rattle.report.proofs.summary.push_hart_states.Goals as goal

pub hart-hart-requires : goal.hart-hart-requires
hart-hart-requires g c =
    let leaves = ap (λ n. n.leaves) c.counts-leaf-end.ensures.counts in
    let below : c.loop-leaf.leaf < (tree_counts (state_in c.args.machine.now).machine).leaves = omega (arith, leaves, c.loop-leaf-test.true) in
    (search rules, leaf-there c.loop-leaf.leaf (state_in c.args.machine.now).machine c.counts-leaf-end.ensures.shape below)

pub loop-leaf-preserved : goal.loop-leaf-preserved
loop-leaf-preserved g c =
    let m = (state_in c.args.machine.now).machine in
    let shown = hart-shown m c.loop-leaf.leaf c.hart-hart.result.now c.counts-leaf-end.ensures.shape c.hart-hart.ensures in
    rw (more-of hart_line_of (harts_of m) c.loop-leaf.leaf _ shown) (c.loop-leaf.invariant ▸ rw (c.halted.ensures, c.pc.ensures, c.done.ensures) at c.in_ok-push_hart_line.ensures.text)

pub returns : goal.returns
returns g c =
    let leaves = ap (λ n. n.leaves) c.counts-leaf-end.ensures.counts in
    let size = harts-counted (state_in c.args.machine.now).machine in
    let past : length (harts_of (state_in c.args.machine.now).machine) ≤ c.loop-leaf.leaf = omega (arith, leaves, size, c.loop-leaf-test.false) in
    rw (take_all c.loop-leaf.leaf (harts_of (state_in c.args.machine.now).machine) past) at c.loop-leaf.invariant
