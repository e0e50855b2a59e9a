use Rattle.std.proofs.Common.{◌∙◌, ◌<◌, ◌≤◌, length-set, ap, arith, rules}
use Rattle.std.specs.Prelude.{is_some}
use Rattle.tree_model.specs.State.Shape.{tree_counts}
use Rattle.any_runs.proofs.DdmTree.LeafList.{leaf-there}
use Rattle.recording.proofs.Halting.{all-done, all-next, flags-done, flags-more}
use Rattle.recording.proofs.harts.put_flags.Goals as goal

pub hart-hart-requires : goal.hart-hart-requires
hart-hart-requires g c =
    let leaves = ap (λ n. n.leaves) c.counts-leaf-end.ensures.counts in
    let below : c.loop-leaf.leaf < (tree_counts c.args.machine.now.machine).leaves = omega (arith, leaves, c.loop-leaf-test.true) in
    (search rules, leaf-there c.loop-leaf.leaf c.args.machine.now.machine c.counts-leaf-end.ensures.shape below)

pub loop-leaf-preserved : goal.loop-leaf-preserved
loop-leaf-preserved g c =
    let m = c.args.machine.now.machine in
    let k = c.loop-leaf.leaf in
    let i = c.loop-leaf.invariant in
    let h = c.hart-hart.result.now in
    let leaves = ap (λ n. n.leaves) c.counts-leaf-end.ensures.counts in
    let below : k < (tree_counts m).leaves = omega (arith, leaves, c.loop-leaf-test.true) in
    let shaped = c.counts-leaf-end.ensures.shape in
    let read = c.is_some-flag.ensures ∙ ap is_some c.halted.ensures in (
      length-set c.loop-leaf.flags k _ ∙ i.0,
      flags-more m k h shaped c.hart-hart.ensures below c.loop-leaf.flags _ read (i.0 ∙ c.requires) i.1,
      all-next m k h shaped c.hart-hart.ensures below c.loop-leaf.all _ read i.2,
    )

pub returns-clause-flags : goal.returns-clause-flags
returns-clause-flags g c =
    let m = c.args.machine.now.machine in
    let leaves = ap (λ n. n.leaves) c.counts-leaf-end.ensures.counts in
    let past : (tree_counts m).leaves ≤ c.loop-leaf.leaf = omega (arith, leaves, c.loop-leaf-test.false) in
    flags-done m c.loop-leaf.leaf past c.loop-leaf.flags (c.loop-leaf.invariant.0 ∙ c.requires) c.loop-leaf.invariant.1

pub returns-clause-all : goal.returns-clause-all
returns-clause-all g c =
    let m = c.args.machine.now.machine in
    let leaves = ap (λ n. n.leaves) c.counts-leaf-end.ensures.counts in
    let past : (tree_counts m).leaves ≤ c.loop-leaf.leaf = omega (arith, leaves, c.loop-leaf-test.false) in
    all-done m c.loop-leaf.leaf past c.loop-leaf.all c.loop-leaf.invariant.2
