use Rattle.std.proofs.Common.{◌≡◌, arith, refl, subst, ◌∙◌}
use Rattle.ddm_tree.specs.declared.quiet.Known.{Known}
use Rattle.ddm_tree.proofs.KeysRising.{set-other}
use Rattle.ddm_tree.proofs.QuietIndex.{IsForgotten, bus-forgotten, forgotten-more}
use Rattle.ddm_tree.proofs.quiet.forget_bus.Goals as goal

pub loop-place-init : goal.loop-place-init
loop-place-init c = (λ i from below. absurd (omega (arith, from, below)), refl)

pub loop-place-preserved : goal.loop-place-preserved
loop-place-preserved c =
    let k = c.loop-place.place in
    (forgotten-more k c.loop-place.quiet c.loop-place.invariant.0, set-other c.loop-place.quiet k 0 Known.Nothing (λ is. omega (arith, is, c.loop-place.auto.place)) ∙ c.loop-place.invariant.1)

pub returns : goal.returns
returns c = λ n.
    let all : c.loop-place.place ≡ 80 = omega (arith, c.loop-place-test.false, c.loop-place.auto.place-end) in
    bus-forgotten c.loop-place.quiet (subst (λ count. IsForgotten count c.loop-place.quiet) all c.loop-place.invariant.0) n c.args.quiet.now c.loop-place.invariant.1
