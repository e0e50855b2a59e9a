use Rattle.std.proofs.Common.{◌≡◌, map, sym, ap, ◌∙◌}
use Rattle.std.proofs.lemmas.List.{get_or-map}
use Rattle.ddm_tree.specs.TreeModel.State.Blank.{no_node}
use Rattle.ddm_tree.specs.TreeModel.State.Values.{children, dir_node, nodes}
use Rattle.ddm_tree.specs.TreeModel.Turns.Children.{child_at}
use Rattle.ddm_tree.proofs.TreeModel.Children.{children-nodes}
use Rattle.ddm_tree.proofs.QuietIndex.{are-fewer}
use Rattle.ddm_tree.proofs.quiet.put_numbered.Goals as goal

pub returns-then-place-children : goal.returns-then-place-children
returns-then-place-children g c = λ d.
    let kids = map g.C.Agent.value c.args.children.now in
    let child : child_at c.args.place (children (nodes kids)) ≡ g.C.Agent.value c.index-children-place.result = ap (child_at c.args.place) (children-nodes kids) ∙ get_or-map g.C.Agent.value c.args.children.now c.args.place c.index-children-place.result no_node c.if-place-children.true ∙ ap g.C.Agent.value (sym c.index-children-place.is) in
    c.put_child.ensures d (nodes kids) child

pub returns-else-place-lt16 : goal.returns-else-place-lt16
returns-else-place-lt16 g c = λ d.
    let n = dir_node d (nodes (map g.C.Agent.value c.args.children.now)) in
    are-fewer n (λ t of. tt) (c.forget_bus.ensures n)
