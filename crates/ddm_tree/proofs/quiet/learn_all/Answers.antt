use Rattle.std.proofs.Common.{◌≡◌, [], map}
use Rattle.ddm_tree.specs.TreeModel.State.Values.{dir_node, nodes}
use Rattle.ddm_tree.specs.Quiet.{IsTouched}
use Rattle.ddm_tree.proofs.QuietTable.{learned-fewer, learned-then, touched-all}
use Rattle.ddm_tree.proofs.quiet.learn_all.Goals as goal

pub returns-clause-learned : goal.returns-clause-learned
returns-clause-learned g c = λ a.
    let d = g.P.Parent.state c.args.parent.now in
    let n = dir_node d (nodes (map g.C.Agent.value c.args.children.now)) in
    let both = learned-then (λ q t. q ≡ []) _ n c.args.known.now c.learn_bus.new.known c.learn_downs.new.known c.learn_bus.ensures.learned (c.learn_downs.ensures.learned d) in
    learned-fewer _ (IsTouched a []) n c.args.known.now c.learn_downs.new.known (λ k q t is touched. touched-all a q t touched) both
