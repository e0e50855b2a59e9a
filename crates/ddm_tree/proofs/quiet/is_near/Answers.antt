use Rattle.std.proofs.Common.{◌<◌, length, arith}
use Rattle.ddm_tree.proofs.QuietNear.{near-step}
use Rattle.ddm_tree.proofs.quiet.is_near.Goals as goal

pub loop-level-init : goal.loop-level-init
loop-level-init c = λ e. cc

pub loop-level-preserved : goal.loop-level-preserved
loop-level-preserved c =
    let k = c.loop-level.level in
    let there : k < length c.args.path.now = omega (arith, c.loop-level-test.true, c.min-level-end.ensures) in
    let here : k < length c.args.other.now = omega (arith, c.loop-level-test.true, c.min-level-end.ensures) in
    near-step c.loop-level.same c.args.path.now c.args.other.now k c.there.inside.0 c.here.inside.0 c.loop-level.invariant there here (rw c.there.view_is c.index-path-level.is) (rw c.here.view_is c.index-other-level.is)

pub returns : goal.returns
returns c = c.loop-level.invariant
