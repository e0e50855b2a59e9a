use Rattle.std.proofs.Common.{◌≡◌, ◌≤◌, length, map, sym, ap, subst, ◌∙◌, arith}
use Rattle.std.proofs.lemmas.List.{get_or-map, length-map}
use Rattle.ddm_tree.specs.TreeModel.State.Blank.{no_node}
use Rattle.ddm_tree.specs.TreeModel.State.Values.{children, dir_node, nodes}
use Rattle.ddm_tree.specs.TreeModel.Turns.Children.{child_at}
use Rattle.ddm_tree.proofs.TreeModel.Children.{children-nodes}
use Rattle.ddm_tree.specs.Quiet.{AreLearnedBelow}
use Rattle.ddm_tree.proofs.OneBus.{nothing-below}
use Rattle.ddm_tree.proofs.QuietTable.{DownOf, down-child, down-none}
use Rattle.ddm_tree.proofs.quiet.learn_down_named.Goals as goal

pub returns-then-place-children-clause-learned : goal.returns-then-place-children-clause-learned
returns-then-place-children-clause-learned g c = λ d.
    let kids = map g.C.Agent.value c.args.children.now in
    let i = c.in-Some.place in
    let child : child_at i (children (nodes kids)) ≡ g.C.Agent.value c.index-children-place.result = ap (child_at i) (children-nodes kids) ∙ get_or-map g.C.Agent.value c.args.children.now i c.index-children-place.result no_node c.if-place-children.true ∙ ap g.C.Agent.value (sym c.index-children-place.is) in
    subst (λ o. AreLearnedBelow (DownOf o) (dir_node d (nodes kids)) c.args.known.now c.learn_down.new.known) (sym c.in-Some.is) (down-child i d (nodes kids) c.args.known.now c.learn_down.new.known (rw child c.learn_down.ensures.learned))

pub returns-else-place-children-clause-learned : goal.returns-else-place-children-clause-learned
returns-else-place-children-clause-learned g c = λ d.
    let kids = map g.C.Agent.value c.args.children.now in
    let i = c.in-Some.place in
    let past : length (children (nodes kids)) ≤ i = omega (arith, ap length (children-nodes kids), length-map c.args.children.now g.C.Agent.value, c.if-place-children.false) in
    subst (λ o. AreLearnedBelow (DownOf o) (dir_node d (nodes kids)) c.args.known.now c.args.known.now) (sym c.in-Some.is) (down-child i d (nodes kids) c.args.known.now c.args.known.now (nothing-below _ i (children (nodes kids)) c.args.known.now past))

pub returns-in_default-clause-learned : goal.returns-in_default-clause-learned
returns-in_default-clause-learned g c = λ d.
    let n = dir_node d (nodes (map g.C.Agent.value c.args.children.now)) in
    subst (λ o. AreLearnedBelow (DownOf o) n c.args.known.now c.args.known.now) (sym c.in_default.is) (down-none n c.args.known.now)
