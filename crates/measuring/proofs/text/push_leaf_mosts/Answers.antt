use Rattle.std.proofs.Common.{◌<◌, ◌≤◌, length, get_or, arith}
use Rattle.std.proofs.lemmas.List.{take_all}
use Rattle.report.specs.DdmText.Adds.{◌▸◌}
use Rattle.recording.proofs.InspectorCrate.OneMore.{got-some}
use Rattle.recording_model.specs.TreeModel.State.Lengths.{no_leaf_lengths}
use Rattle.measure_model.specs.Text.{leaf_most_line}
use Rattle.measuring.proofs.Listed.{leaf-mosts-single, single-next}
use Rattle.measuring.proofs.text.push_leaf_mosts.Goals as goal

pub loop-leaf-preserved : goal.loop-leaf-preserved
loop-leaf-preserved c =
    let k = c.loop-leaf.leaf in
    let inside : k < length c.args.mosts.now = omega (arith, c.requires, c.loop-leaf-test.true) in
    rw (single-next leaf_most_line k c.args.mosts.now (get_or c.args.mosts.now k no_leaf_lengths) (got-some c.args.mosts.now k no_leaf_lengths inside)) (c.loop-leaf.invariant ▸ c.in_ok-push_leaf_most.ensures)

pub returns : goal.returns
returns c =
    let past : length c.args.mosts.now ≤ c.loop-leaf.leaf = omega (arith, c.requires, c.loop-leaf-test.false) in
    rw (leaf-mosts-single 0 c.args.mosts.now) (rw (take_all c.loop-leaf.leaf c.args.mosts.now past) at c.loop-leaf.invariant)
