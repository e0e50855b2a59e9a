use Rattle.std.proofs.Common.{◌<◌, length, rules, sym, arith}
use Rattle.report.specs.TreeModel.State.Shape.{tree_counts}
use Rattle.report.specs.TreeModel.Turns.Found.{states_of}
use Rattle.text_model.specs.Report.{letter_text, letter_texts}
use Rattle.report.proofs.DdmTree.LeafList.{leaf-there}
use Rattle.report.proofs.InspectorCrate.LeafStates.{states-counted}
use Rattle.any_machine.specs.Any.{state_in}
use Rattle.report.proofs.MachineLines.{got-is, state-shown}
use Rattle.report.proofs.ReportParts.{one-more}
use Rattle.report.proofs.machine_parts.put_many_states.Goals as goal

pub state-requires : goal.state-requires
state-requires g c =
    let m = (state_in c.args.machine.now).machine in
    let below : c.states.next < (tree_counts m).leaves = omega (arith, c.states-test.true, c.requires.leaves) in
    (search rules, leaf-there c.states.next m c.requires.shape below)

pub states-preserved : goal.states-preserved
unfolding letter_texts
states-preserved g c =
    let m = (state_in c.args.machine.now).machine in
    let all = states_of c.args.item m in
    let k = c.states.next in
    let s = c.state.result in
    let inside : k < length all = omega (arith, c.states-test.true, c.requires.leaves, states-counted m c.args.item) in
    let here = sym (got-is all k s s (state-shown m k c.args.item s c.requires.shape c.state.ensures)) in
    record {
      within = omega (arith, c.states-test.true);
      states = one-more letter_text all k s _ c.states.line c.push_letter.new.out inside here c.states.invariant.states c.in-Ok.ensures.text.is;
      room = omega (arith, c.in-Ok.ensures.room, c.if-len-lt-LONG_LINE.true, c.len.ensures.length);
    }
