use Rattle.std.proofs.Common.{◌≡◌, length, map, arith, sym, ap, ◌∙◌}
use Rattle.std.proofs.lemmas.List.{get_or-map, length-map}
use Rattle.ddm_tree.specs.TreeModel.State.Blank.{no_node}
use Rattle.ddm_tree.specs.TreeModel.State.Values.{children, dir_node, nodes}
use Rattle.ddm_tree.specs.TreeModel.Turns.Children.{child_at}
use Rattle.ddm_tree.proofs.TreeModel.Children.{children-nodes}
use Rattle.ddm_tree.proofs.OneBus.{path-inside}
use Rattle.ddm_tree.proofs.QuietTable.{DownsOf, downs-next, downs-none, harts-self, harts-then, learned-fewer}
use Rattle.ddm_tree.proofs.quiet.learn_downs.Goals as goal

pub loop-child-init : goal.loop-child-init
loop-child-init g c = (λ d. downs-none (dir_node d (nodes (map g.C.Agent.value c.args.children.now))) c.args.known.now, harts-self c.args.known.now)

pub loop-child-preserved : goal.loop-child-preserved
loop-child-preserved g c =
    let k = c.loop-child.child-index in
    let kids = map g.C.Agent.value c.args.children.now in
    let child : child_at k (children (nodes kids)) ≡ g.C.Agent.value c.child-item.result = ap (child_at k) (children-nodes kids) ∙ get_or-map g.C.Agent.value c.args.children.now k c.child-item.result no_node c.loop-child-test.true ∙ ap g.C.Agent.value (sym c.child-item.is) in (
      λ d. downs-next k d (nodes kids) c.args.known.now c.loop-child.known c.learn_down.new.known (c.loop-child.invariant.0 d) (rw child c.learn_down.ensures.learned),
      harts-then c.loop-child.invariant.1 c.learn_down.ensures.harts,
    )

pub returns-clause-learned : goal.returns-clause-learned
returns-clause-learned g c = λ d.
    let kids = map g.C.Agent.value c.args.children.now in
    learned-fewer (DownsOf c.loop-child.child-index) _ (dir_node d (nodes kids)) c.args.known.now c.loop-child.known
    (λ k q t is down.
    let inside = path-inside k down.0.0 q d (nodes kids) down.0.1 is in
    ((down.0.0, omega (arith, inside, ap length (children-nodes kids), length-map c.args.children.now g.C.Agent.value, c.loop-child-test.false, c.loop-child.auto.child-index-end), down.0.1), down.1))
    (c.loop-child.invariant.0 d)

pub returns-clause-harts : goal.returns-clause-harts
returns-clause-harts g c = c.loop-child.invariant.1
