use Rattle.std.proofs.Common.{◌<◌, ◌≤◌, length, ap, arith, rules}
use Rattle.std.proofs.lemmas.List.{take_all}
use Rattle.ddm_tree.specs.DdmText.Adds.{◌▸◌}
use Rattle.ddm_tree.proofs.StateWords.Nothing.{begins-after, on-err}
use Rattle.ddm_tree.specs.TreeModel.State.Shape.{tree_counts}
use Rattle.ddm_tree.specs.TreeModel.Turns.Machine.{machine_leaves}
use Rattle.ddm_tree.specs.StateWords.Parts.{hart_words}
use Rattle.ddm_tree.proofs.LeafList.{leaf-there, leaves-counted}
use Rattle.ddm_tree.proofs.Written.{leaves-more}
use Rattle.ddm_tree.proofs.machine.Machine.write_harts.Goals as goal

pub write_hart-requires : goal.write_hart-requires
write_hart-requires g c =
    let leaves = ap (λ n. n.leaves) c.counts-leaf-end.ensures.counts in
    let below : c.loop-leaf.leaf < (tree_counts c.args.self.now.machine).leaves = omega (arith, leaves, c.loop-leaf-test.true) in
    (search rules, leaf-there c.loop-leaf.leaf c.args.self.now.machine c.counts-leaf-end.ensures.shape below)

pub loop-leaf-preserved : goal.loop-leaf-preserved
loop-leaf-preserved g c =
    let leaves = ap (λ n. n.leaves) c.counts-leaf-end.ensures.counts in
    let inside : c.loop-leaf.leaf < length (machine_leaves c.args.self.now.machine) = omega (arith, leaves, leaves-counted c.args.self.now.machine, c.loop-leaf-test.true) in
    rw (leaves-more hart_words c.args.self.now.machine c.loop-leaf.leaf c.counts-leaf-end.ensures.shape inside) (c.loop-leaf.invariant ▸ c.in_ok-write_hart.ensures.ok)

pub returns-clause-ok : goal.returns-clause-ok
returns-clause-ok g c =
    let leaves = ap (λ n. n.leaves) c.counts-leaf-end.ensures.counts in
    let past : length (machine_leaves c.args.self.now.machine) ≤ c.loop-leaf.leaf = omega (arith, leaves, leaves-counted c.args.self.now.machine, c.loop-leaf-test.false) in
    rw (take_all c.loop-leaf.leaf (machine_leaves c.args.self.now.machine) past) at c.loop-leaf.invariant

pub returns-in_err-write_hart-clause-err : goal.returns-in_err-write_hart-clause-err
returns-in_err-write_hart-clause-err g c = on-err _ (begins-after c.loop-leaf.invariant c.in_err-write_hart.ensures.err)
