use Rattle.std.proofs.Common.{◌<◌, ◌≤◌, length, get_or, arith}
use Rattle.std.proofs.lemmas.List.{take_all}
use Rattle.report.specs.DdmText.Adds.{◌▸◌}
use Rattle.recording.proofs.InspectorCrate.OneMore.{got-some}
use Rattle.recording_model.specs.TreeModel.State.Lengths.{no_dir_lengths}
use Rattle.measure_model.specs.Text.{most_line}
use Rattle.measuring.proofs.Listed.{mosts-single, single-next}
use Rattle.measuring.proofs.text.push_mosts.Goals as goal

pub loop-bus-preserved : goal.loop-bus-preserved
loop-bus-preserved c =
    let k = c.loop-bus.bus in
    let inside : k < length c.args.mosts.now = omega (arith, c.requires, c.loop-bus-test.true) in
    rw (single-next most_line k c.args.mosts.now (get_or c.args.mosts.now k no_dir_lengths) (got-some c.args.mosts.now k no_dir_lengths inside)) (c.loop-bus.invariant ▸ c.in_ok-push_most.ensures)

pub returns : goal.returns
returns c =
    let past : length c.args.mosts.now ≤ c.loop-bus.bus = omega (arith, c.requires, c.loop-bus-test.false) in
    rw (mosts-single 0 c.args.mosts.now) (rw (take_all c.loop-bus.bus c.args.mosts.now past) at c.loop-bus.invariant)
