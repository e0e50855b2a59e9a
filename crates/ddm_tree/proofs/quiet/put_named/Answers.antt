use Rattle.std.proofs.Common.{map, subst, sym, ◌∙◌}
use Rattle.std.proofs.lemmas.Option.{same_Some}
use Rattle.ddm_tree.specs.TreeModel.State.Values.{dir_node, nodes}
use Rattle.ddm_tree.specs.Quiet.{AreLearned, OfChild, OfNamed}
use Rattle.ddm_tree.proofs.QuietIndex.{are-fewer, are-none}
use Rattle.ddm_tree.proofs.quiet.put_named.Goals as goal

pub returns-in-Some : goal.returns-in-Some
returns-in-Some g c = λ d.
    let n = dir_node d (nodes (map g.C.Agent.value c.args.children.now)) in
    are-fewer n (λ t of. subst (λ k. OfChild k t) (same_Some of.0 c.in-Some.place (sym of.1 ∙ c.in-Some.is)) of.2) (c.put_numbered.ensures d)

pub returns-in_default : goal.returns-in_default
returns-in_default g c = λ d.
    subst (λ o. AreLearned (OfNamed o) (dir_node d (nodes (map g.C.Agent.value c.args.children.now))) c.args.quiet.now c.args.quiet.now) (sym c.in_default.is) (are-none _ c.args.quiet.now)
