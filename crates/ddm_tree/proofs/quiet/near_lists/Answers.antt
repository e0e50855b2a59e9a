use Rattle.std.proofs.Common.{◌≡◌, ◌+◌, Some, ◌∷◌, [], length, map, vec_items, arith, subst, sym, ap, ◌∙◌}
use Rattle.std.specs.Prelude.{slice_get}
use Rattle.std.proofs.lemmas.List.{length-map, map-append}
use Rattle.ddm_tree.proofs.ListedPaths.{listed-there}
use Rattle.ddm_tree.proofs.QuietNear.{AreNearFor, lists-all, lists-more, lists-none}
use Rattle.ddm_tree.proofs.quiet.near_lists.Goals as goal

pub loop-number-init : goal.loop-number-init
loop-number-init c = subst (λ xs. AreNearFor 0 (map vec_items xs) (map vec_items c.args.paths.now) (map vec_items c.args.others.now)) (sym c.in_ok-nears.ensures.items) (lists-none _ _)

pub loop-number-preserved : goal.loop-number-preserved
loop-number-preserved c =
    let paths = map vec_items c.args.paths.now in
    let others = map vec_items c.args.others.now in
    let k = c.loop-number.number in
    let there : slice_get paths k ≡ Some c.deref.result.now = listed-there vec_items c.args.paths.now k c.index-paths-number.result c.loop-number-test.true c.index-paths-number.is ∙ ap Some (sym c.deref.ensures.value) in
    let near = c.in_ok-paths_near.field-0 in
    let more = lists-more k (map vec_items c.loop-number.nears.items) paths others c.loop-number.invariant c.deref.result.now near.items there c.in_ok-paths_near.ensures in
    subst (λ xs. AreNearFor (k + 1) xs paths others) (sym (ap (map vec_items) c.in_ok-push.ensures.items ∙ map-append vec_items c.loop-number.nears.items (near ∷ []))) more

pub returns : goal.returns
returns c =
    let paths = map vec_items c.args.paths.now in
    let all : c.loop-number.number ≡ length paths = omega (arith, c.loop-number-test.false, c.loop-number.auto.number-end, length-map c.args.paths.now vec_items) in
    lists-all (map vec_items c.loop-number.nears.items) paths _ (subst (λ count. AreNearFor count (map vec_items c.loop-number.nears.items) paths (map vec_items c.args.others.now)) all c.loop-number.invariant)
