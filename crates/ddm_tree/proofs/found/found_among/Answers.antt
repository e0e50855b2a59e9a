use Rattle.std.proofs.Common.{◌≡◌, true, false, refl, sym, ap, ◌∙◌, rules}
use Rattle.ddm_tree.specs.TreeModel.State.Child.{child_holds}
use Rattle.ddm_tree.specs.TreeModel.State.States.{is_held}
use Rattle.ddm_tree.specs.Ready.{IsItemIn}
use Rattle.ddm_tree.proofs.FoundCopy.{item-kept, copy-here, copy-past, copy-end}
use Rattle.ddm_tree.proofs.Search.{here-all}
use Rattle.ddm_tree.proofs.found.found_among.Goals as goal

pub loop-child-init : goal.loop-child-init
loop-child-init g c = refl

pub hold-requires : goal.hold-requires
hold-requires g c = item-kept c.args.item _ (here-all g.C.Agent.value c.args.children.now c.loop-child.child-index c.child-item.result c.loop-child-test.true c.child-item.is (IsItemIn c.args.item) c.requires)

pub found_below-requires : goal.found_below-requires
found_below-requires g c = (search rules, here-all g.C.Agent.value c.args.children.now c.loop-child.child-index c.child-item.result c.loop-child-test.true c.child-item.is (IsItemIn c.args.item) c.requires)

pub returns-then-is_held : goal.returns-then-is_held
returns-then-is_held g c =
    let here : child_holds c.args.item (g.C.Agent.value c.child-item.result) ≡ true = ap is_held (sym c.hold.ensures) ∙ sym c.if-is_held.ensures in
    c.found_below.ensures ∙ sym (c.loop-child.invariant ∙ copy-here g.C.Agent.value c.args.item c.loop-child.child-index c.args.children.now c.child-item.result c.loop-child-test.true c.child-item.is here)

pub loop-child-preserved : goal.loop-child-preserved
loop-child-preserved g c =
    let here : child_holds c.args.item (g.C.Agent.value c.child-item.result) ≡ false = ap is_held (sym c.hold.ensures) ∙ sym c.if-is_held.ensures in
    c.loop-child.invariant ∙ copy-past g.C.Agent.value c.args.item c.loop-child.child-index c.args.children.now c.child-item.result c.loop-child-test.true c.child-item.is here

pub returns : goal.returns
returns g c = sym (c.loop-child.invariant ∙ copy-end g.C.Agent.value c.args.item c.loop-child.child-index c.args.children.now c.loop-child-test.false)
