use Rattle.std.proofs.Common.{◌≡◌, Some, map, vec_items, sym, ap, ◌∙◌}
use Rattle.std.specs.Prelude.{slice_get}
use Rattle.std.proofs.lemmas.Bool.{ltb-true}
use Rattle.ddm_tree.proofs.ListedPaths.{listed-there}
use Rattle.ddm_tree.proofs.Resting.{rest-seen}
use Rattle.ddm_tree.proofs.idle.rest_of.Goals as goal

pub returns : goal.returns
returns g c = λ d.
    let here = c.in_ok-get.ensures.lookup in
    let listed : slice_get (map vec_items c.args.leaf_paths.now) c.args.leaf ≡ Some c.deref.result.now = listed-there vec_items c.args.leaf_paths.now c.args.leaf c.in_ok-get.field-0.now (ltb-true _ _ (sym here.0)) here.1 ∙ ap Some (sym c.deref.ensures.value) in
    rest-seen _ _ c.args.leaf c.deref.result.now c.rest_under.result listed (c.rest_under.ensures d)
