use Rattle.std.proofs.Common.{Some, ap, sym, ◌∙◌, arith}
use Rattle.no_jam.specs.DdmTypes.declared.sizes.TreeCounts.{TreeCounts}
use Rattle.any_machine.specs.Any.{machine_state}
use Rattle.no_jam.proofs.LeafWaits.{none-more, none-waits, some-waits}
use Rattle.no_jam.proofs.waiting.some_leaf_waits.Goals as goal

pub loop-leaf-init : goal.loop-leaf-init
loop-leaf-init c = λ j l. absurd (omega (arith, l))

pub returns-then-leaf_waits : goal.returns-then-leaf_waits
returns-then-leaf_waits c =
    sym (some-waits (machine_state c.args.machine.now).machine c.counts-leaves.ensures.shape c.loop-leaf.leaf (ap Some (sym c.if-leaf_waits.true) ∙ c.leaf_waits.ensures))

pub loop-leaf-preserved : goal.loop-leaf-preserved
loop-leaf-preserved c =
    none-more c.loop-leaf.leaf (machine_state c.args.machine.now).machine (ap Some (sym c.if-leaf_waits.false) ∙ c.leaf_waits.ensures) c.loop-leaf.invariant

pub returns : goal.returns
returns c =
    let leaves = ap (λ (n : TreeCounts). n.leaves) c.counts-leaves.ensures.counts in
    sym (none-waits (machine_state c.args.machine.now).machine c.counts-leaves.ensures.shape (λ j l. c.loop-leaf.invariant j (omega (arith, leaves, l, c.loop-leaf-test.false))))
