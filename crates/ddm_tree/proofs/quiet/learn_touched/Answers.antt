use Rattle.std.proofs.Common.{◌≡◌, ◌⊎◌, ℕ, [], Some, true, map}
use Rattle.ddm_tree.specs.TreeModel.State.Values.{dir_node, nodes}
use Rattle.ddm_tree.specs.Quiet.{IsTouched, touches_child}
use Rattle.ddm_tree.proofs.QuietTable.{harts-then, learned-fewer, learned-then, touched-two}
use Rattle.ddm_tree.proofs.quiet.learn_touched.Goals as goal

pub returns-in-Some-clause-learned : goal.returns-in-Some-clause-learned
returns-in-Some-clause-learned g c =
    let d = g.P.Parent.state c.args.parent.now in
    let n = dir_node d (nodes (map g.C.Agent.value c.args.children.now)) in
    let two : (i : ℕ) → touches_child i c.args.answer.now ≡ true → (c.in-Some.first ≡ Some i) ⊎ (c.in-Some.second ≡ Some i) = rw c.in-Some.is at c.two_touched.ensures in
    let all = learned-then _ _ n c.args.known.now _ c.learn_down_named-in-Some.new.known (learned-then _ _ n c.args.known.now c.learn_two.new.known c.learn_down_named.new.known c.learn_two.ensures.learned (c.learn_down_named.ensures.learned d)) (c.learn_down_named-in-Some.ensures.learned d) in
    learned-fewer _ (IsTouched c.args.answer.now []) n c.args.known.now c.learn_down_named-in-Some.new.known (λ k q t is touched. touched-two c.args.answer.now c.in-Some.first c.in-Some.second two q t touched) all

pub returns-in-Some-clause-harts : goal.returns-in-Some-clause-harts
returns-in-Some-clause-harts g c = harts-then (harts-then c.learn_two.ensures.harts c.learn_down_named.ensures.harts) c.learn_down_named-in-Some.ensures.harts
