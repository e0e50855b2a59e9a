use Rattle.std.proofs.Common.{◌≡◌, drop, ap, refl, arith}
use Rattle.std.specs.List.{range_with_len}
use Rattle.ddm_tree.specs.TreeRules.Bus.Faces.{parent_face}
use Rattle.ddm_tree.specs.TreeRules.Bus.Rules.{kept_places}
use Rattle.ddm_tree.specs.Judging.{keeps_places}
use Rattle.ddm_tree.proofs.JudgedItems.{none-left, one-place, place-more}
use Rattle.ddm_tree.proofs.judging.keeps_places.Goals as goal

pub overflow_add-kept : goal.overflow_add-kept
overflow_add-kept g c =
    let p = g.P.Parent.state c.args.parent.now in
    let one = one-place p c.loop-item.item c.kept_places-kept.result (c.kept_places-kept.ensures (parent_face c.loop-item.item p) c.facts.ensures) in
    omega (arith, one, c.loop-item.invariant.1, c.loop-item-test.true, c.ranges.items)

pub loop-item-preserved : goal.loop-item-preserved
loop-item-preserved g c =
    let p = g.P.Parent.state c.args.parent.now in
    let more = c.kept_places-kept.ensures (parent_face c.loop-item.item p) c.facts.ensures in
    let one = one-place p c.loop-item.item c.kept_places-kept.result more in
    (place-more p c.args.items c.loop-item.item c.loop-item.kept c.kept_places-kept.result c.loop-item-test.true c.loop-item.invariant.0 more, omega (arith, one, c.loop-item.invariant.1))

pub returns : goal.returns
unfolding keeps_places
returns g c =
    let p = g.P.Parent.state c.args.parent.now in
    let left : kept_places p (drop c.loop-item.item (range_with_len 0 c.args.items)) ≡ 0 = ap (kept_places p) (none-left c.args.items c.loop-item.item c.loop-item-test.false) in
    let all : c.loop-item.kept ≡ kept_places p (range_with_len 0 c.args.items) = omega (arith, left, c.loop-item.invariant.0) in
    rw (c.reserved.ensures, all) refl
