use Rattle.std.proofs.Common.{◌≡◌, ◌<◌, length, true, false, Some, sym, subst, ap, ◌∙◌, arith}
use Rattle.std.specs.Prelude.{slice_get}
use Rattle.ddm_tree.specs.TreeModel.State.Shape.{IsShaped}
use Rattle.state_judging.specs.Judged.{is_key_of_leaf}
use Rattle.ddm_tree.specs.Keys.{IsTaken}
use Rattle.ddm_tree.proofs.KeysRising.{IsFit, rising-unfit, rising-next}
use Rattle.ddm_tree.proofs.KeysSeen.{op-there}
use Rattle.ddm_tree.proofs.parts.Parts.broken_key_in_turn.Goals as goal

pub returns-then-not-key_fits : goal.returns-then-not-key_fits
returns-then-not-key_fits g c =
    let below : c.loop-k.k < length c.self.inside.ops.items = omega (arith, c.loop-k-test.true, c.len-k-end.ensures.length) in
    let there : slice_get c.args.self.now.ops c.loop-k.k ≡ Some c.get-op.result = op-there c.self.inside.ops.items c.args.self.now.ops c.loop-k.k c.get-op.result (ap (λ m. m.ops) c.self.view_is) below (c.get-op.ensures c.get-op.result) in
    let unfit : is_key_of_leaf c.args.self.now c.get-op.result ≡ false = sym c.key_fits.ensures ∙ c.if-not-key_fits.true in
    rising-unfit c.args.self.now c.loop-k.k c.loop-k.lasts c.loop-k.invariant c.get-op.result there unfit

pub loop-k-preserved : goal.loop-k-preserved
loop-k-preserved g c =
    let below : c.loop-k.k < length c.self.inside.ops.items = omega (arith, c.loop-k-test.true, c.len-k-end.ensures.length) in
    let there : slice_get c.args.self.now.ops c.loop-k.k ≡ Some c.get-op.result = op-there c.self.inside.ops.items c.args.self.now.ops c.loop-k.k c.get-op.result (ap (λ m. m.ops) c.self.view_is) below (c.get-op.ensures c.get-op.result) in
    let fit : is_key_of_leaf c.args.self.now c.get-op.result ≡ true = sym c.key_fits.ensures ∙ c.if-not-key_fits.false in
    let shaped : IsShaped c.args.self.now = subst IsShaped c.self.view_is c.self.invariant.0.readable.shaped in
    let taken : IsTaken c.get-op.result c.loop-k.lasts c.take_key.new.lasts = c.take_key.ensures c.if-not-take_key.false in
    let inside = taken.inside in
    let is_fit : IsFit c.args.self.now c.get-op.result = record { below = omega (arith, inside, c.loop-k.auto.lasts, c.requires.places); fit = fit } in
    rising-next c.args.self.now c.loop-k.k c.loop-k.lasts c.loop-k.invariant c.get-op.result there shaped is_fit c.take_key.new.lasts taken
