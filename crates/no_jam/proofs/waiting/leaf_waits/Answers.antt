use Rattle.std.proofs.Common.{ap, sym, ◌∙◌, arith}
use Rattle.no_jam.specs.DdmTypes.ItemTable.{item_count}
use Rattle.no_jam.proofs.DdmTree.LeafList.{leaf-there}
use Rattle.any_machine.specs.Any.{machine_state}
use Rattle.no_jam.proofs.LeafWaits.{leaf-rests, leaf-waits, rests-more, rests-none, rules-of}
use Rattle.no_jam.proofs.waiting.leaf_waits.Goals as goal

pub loop-item-init : goal.loop-item-init
loop-item-init c = rests-none c.args.leaf (machine_state c.args.machine.now).machine

pub state-requires : goal.state-requires
state-requires c = leaf-there c.args.leaf (machine_state c.args.machine.now).machine c.counts.ensures.shape c.requires

pub returns-then-state_waits : goal.returns-then-state_waits
returns-then-state_waits c =
    let m = (machine_state c.args.machine.now).machine in
    leaf-waits m c.args.leaf c.counts.ensures.shape (rules-of m c.counts.ensures.rules) c.requires c.loop-item.item c.state.result c.state.ensures (sym c.state_waits.ensures ∙ c.if-state_waits.true)

pub loop-item-preserved : goal.loop-item-preserved
loop-item-preserved c =
    rests-more c.loop-item.item c.args.leaf (machine_state c.args.machine.now).machine c.state.result c.state.ensures (sym c.state_waits.ensures ∙ c.if-state_waits.false) c.loop-item.invariant

pub returns : goal.returns
returns c =
    let m = (machine_state c.args.machine.now).machine in
    let items = c.len-items.ensures ∙ ap item_count c.items.ensures in
    leaf-rests m c.args.leaf c.counts.ensures.shape (rules-of m c.counts.ensures.rules) c.requires (λ y l. c.loop-item.invariant y (omega (arith, items, l, c.loop-item-test.false)))
