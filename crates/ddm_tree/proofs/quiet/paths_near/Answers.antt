use Rattle.std.proofs.Common.{◌≡◌, ◌+◌, Some, length, map, vec_items, arith, subst, sym, ap, ◌∙◌}
use Rattle.std.specs.Prelude.{slice_get}
use Rattle.std.proofs.lemmas.List.{length-map}
use Rattle.ddm_tree.proofs.ListedPaths.{listed-there}
use Rattle.ddm_tree.proofs.QuietNear.{AreNearBelow, near-all, near-past, near-put}
use Rattle.ddm_tree.proofs.quiet.paths_near.Goals as goal
use Rattle.ddm_tree.proofs.quiet.paths_near.Goals.{then-is_near+in_ok-push, else-is_near}

pub loop-number-preserved : goal.loop-number-preserved
loop-number-preserved c =
    let paths = map vec_items c.args.others.now in
    let there : slice_get paths c.loop-number.number ≡ Some c.deref.result.now = listed-there vec_items c.args.others.now c.loop-number.number c.index-others-number.result c.loop-number-test.true c.index-others-number.is ∙ ap Some (sym c.deref.ensures.value) in
    elim c.if-is_near.branch [
      | then-is_near+in_ok-push w ↦
          let items = ap (λ v. v.items) w.near-is ∙ w.in_ok-push.ensures.items in
          subst (λ xs. AreNearBelow (c.loop-number.number + 1) c.args.path.now xs paths) (sym items) (near-put c.loop-number.number c.args.path.now c.loop-number.near.items paths c.loop-number.invariant)
      | else-is_near w ↦
          subst (λ v. AreNearBelow (c.loop-number.number + 1) c.args.path.now v.items paths) (sym w.near-is) (near-past c.loop-number.number c.args.path.now c.loop-number.near.items paths c.loop-number.invariant c.deref.result.now there (c.is_near.ensures w.if-is_near.false))
    ]

pub returns : goal.returns
returns c =
    let paths = map vec_items c.args.others.now in
    let all : c.loop-number.number ≡ length paths = omega (arith, c.loop-number-test.false, c.loop-number.auto.number-end, length-map c.args.others.now vec_items) in
    near-all c.args.path.now c.loop-number.near.items paths (subst (λ count. AreNearBelow count c.args.path.now c.loop-number.near.items paths) all c.loop-number.invariant)
