use Rattle.std.proofs.Common.{◌<◌, ◌≤◌, length, ap, get_or, arith, rules}
use Rattle.std.proofs.lemmas.List.{take_all}
use Rattle.report.specs.DdmText.Adds.{◌▸◌}
use Rattle.recording.specs.AnyMachine.Any.{state_in}
use Rattle.recording.proofs.DdmTree.LeafList.{leaf-there, leaves-counted}
use Rattle.recording.proofs.InspectorCrate.OneMore.{got-some, item-there}
use Rattle.recording_model.specs.TreeModel.State.Shape.{tree_counts}
use Rattle.recording_model.specs.TreeModel.Turns.Machine.{machine_leaves}
use Rattle.measure_model.specs.Text.{hart_counts_line}
use Rattle.measuring.specs.Tally.{no_hart_counts}
use Rattle.measuring.proofs.Harts.{leaf-has}
use Rattle.measuring.proofs.Listed.{harts-paired, pair-next}
use Rattle.measuring.proofs.text.push_harts.Goals as goal

pub hart-hart-requires : goal.hart-hart-requires
hart-hart-requires g c =
    let leaves = ap (λ n. n.leaves) c.counts-leaf-end.ensures.counts in
    let below : c.loop-leaf.leaf < (tree_counts (state_in c.args.machine.now).machine).leaves = omega (arith, leaves, c.loop-leaf-test.true) in
    (search rules, leaf-there c.loop-leaf.leaf (state_in c.args.machine.now).machine c.counts-leaf-end.ensures.shape below)

pub loop-leaf-preserved : goal.loop-leaf-preserved
loop-leaf-preserved g c =
    let m = (state_in c.args.machine.now).machine in
    let k = c.loop-leaf.leaf in
    let leaves = ap (λ n. n.leaves) c.counts-leaf-end.ensures.counts in
    let size = leaves-counted m in
    let inside : k < length (machine_leaves m) = omega (arith, leaves, size, c.loop-leaf-test.true) in
    let counted : k < length c.args.harts.now = omega (arith, leaves, c.requires, c.loop-leaf-test.true) in
    let there = item-there (machine_leaves m) k inside in
    let has = leaf-has m k c.hart-hart.result.now there.0 c.counts-leaf-end.ensures.shape there.1 c.hart-hart.ensures in
    rw (pair-next (λ n v c. hart_counts_line v c) k (machine_leaves m) c.args.harts.now there.0 (get_or c.args.harts.now k no_hart_counts) there.1 (got-some c.args.harts.now k no_hart_counts counted))
    (c.loop-leaf.invariant ▸ c.in_ok-push_hart.ensures there.0 has)

pub returns : goal.returns
returns g c =
    let m = (state_in c.args.machine.now).machine in
    let leaves = ap (λ n. n.leaves) c.counts-leaf-end.ensures.counts in
    let size = leaves-counted m in
    let past : length (machine_leaves m) ≤ c.loop-leaf.leaf = omega (arith, leaves, size, c.loop-leaf-test.false) in
    let counted : length c.args.harts.now ≤ c.loop-leaf.leaf = omega (arith, leaves, c.requires, c.loop-leaf-test.false) in
    rw (harts-paired 0 (machine_leaves m) c.args.harts.now) (rw (take_all c.loop-leaf.leaf (machine_leaves m) past, take_all c.loop-leaf.leaf c.args.harts.now counted) at c.loop-leaf.invariant)
