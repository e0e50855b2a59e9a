use Rattle.std.proofs.Common.{◌<◌, length, set, true, sym, ap, ◌∙◌, arith}
use Rattle.std.specs.Prelude.{if◌then◌else◌}
use Rattle.ddm_tree.specs.TreeModel.State.States.{is_exclusive}
use Rattle.ddm_tree.proofs.Marked.{each-none, exclusive-next}
use Rattle.ddm_tree.proofs.marking.mark_exclusive.Goals as goal

pub loop-item-init : goal.loop-item-init
loop-item-init g c = sym (each-none c.args.held.now)

pub loop-item-preserved : goal.loop-item-preserved
loop-item-preserved g c =
    let k = c.loop-item.item in
    let inside : k < length c.args.state.now.items = omega (arith, c.requires.whole, c.loop-item-test.true) in
    let next = exclusive-next k c.args.held.now c.args.state.now.items c.is_exclusive.result inside c.requires.whole (c.is_exclusive.ensures ∙ ap is_exclusive c.up_hold-hold.ensures) in
    c.mark_if.ensures ∙ ap (λ h. if c.is_exclusive.result then set h k true else h) c.loop-item.invariant ∙ next
