use Rattle.std.proofs.Common.{◌≡◌, ◌<◌, length, map, refl, sym, ap, ◌∙◌, arith}
use Rattle.std.proofs.lemmas.List.{get_or-map}
use Rattle.ddm_tree.specs.TreeModel.State.Blank.{no_node}
use Rattle.ddm_tree.specs.TreeModel.State.Values.{children, dir_node, nodes}
use Rattle.ddm_tree.specs.TreeModel.Turns.Children.{child_at}
use Rattle.ddm_tree.proofs.TreeModel.Children.{children-nodes}
use Rattle.ddm_tree.proofs.QuietIndex.{all-learned, quiet-learned, quiet-of-all}
use Rattle.ddm_tree.proofs.quiet.put_bus.Goals as goal

pub loop-c-init : goal.loop-c-init
loop-c-init g c =
    let kids = nodes (map g.C.Agent.value c.args.children.now) in
    let n = dir_node (g.P.Parent.state c.args.parent.now) kids in
    let down = c.put_down.ensures kids in
    (quiet-learned n (quiet-of-all n (c.forget_bus.ensures n)) down, refl)

pub loop-c-preserved : goal.loop-c-preserved
loop-c-preserved g c =
    let k = c.loop-c.c in
    let kids = map g.C.Agent.value c.args.children.now in
    let d = g.P.Parent.state c.args.parent.now in
    let inside : k < length c.args.children.now = omega (arith, c.loop-c-test.true, c.min-c-end.ensures) in
    let child : child_at k (children (nodes kids)) ≡ g.C.Agent.value c.index-children-c.result = ap (child_at k) (children-nodes kids) ∙ get_or-map g.C.Agent.value c.args.children.now k c.index-children-c.result no_node inside ∙ ap g.C.Agent.value (sym c.index-children-c.is) in
    let put = c.put_child.ensures d (nodes kids) child in
    (quiet-learned (dir_node d (nodes kids)) c.loop-c.invariant.0 put, put.hart ∙ c.loop-c.invariant.1)

pub returns : goal.returns
returns g c =
    let kids = nodes (map g.C.Agent.value c.args.children.now) in
    let n = dir_node (g.P.Parent.state c.args.parent.now) kids in
    all-learned n c.loop-c.invariant.0 (c.loop-c.invariant.1 ∙ (c.put_down.ensures kids).hart ∙ (c.forget_bus.ensures n).hart)
