use Rattle.std.proofs.Common.{◌≡◌, ◌∷◌, Some, sym, ap, subst, ◌∙◌}
use Rattle.std.specs.Prelude.{IfSome}
use Rattle.std.proofs.lemmas.Bool.{ltb-true}
use Rattle.ddm_tree.specs.Idle.{node_rests}
use Rattle.ddm_tree.proofs.ListedPaths.{child-there}
use Rattle.ddm_tree.proofs.idle.rest_under.Goals as goal

pub returns : goal.returns
returns g c = λ d.
    let here = c.in_ok-get.ensures.lookup in
    let on = c.in_ok-child.ensures.cases.0 ∙ ap (λ i. i ∷ c.in_ok-child.rest.now) (sym c.child.view_is) in
    let same = child-there g.C.Agent.value d c.args.children.now c.args.path.now c.child.inside.0 c.in_ok-child.rest.now c.in_ok-get.field-0.now on (ltb-true _ _ (sym here.0)) here.1 in
    subst (λ m. IfSome c.rest_below.result (λ i. node_rests m ≡ Some i)) (sym same) c.rest_below.ensures
