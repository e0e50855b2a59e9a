use Rattle.std.proofs.Common.{◌≡◌, ◌<◌, length, true, false, Some, sym, ap, ◌∙◌, arith}
use Rattle.std.specs.Prelude.{slice_get}
use Rattle.std.specs.BTreeSet.{contains}
use Rattle.state_judging.specs.Judged.{is_key_of_leaf}
use Rattle.ddm_tree.proofs.KeysSeen.{key_cmp, op-there, seen-unfit, seen-again, seen-next, was-there, was-new}
use Rattle.ddm_tree.proofs.parts.Parts.broken_key_among.Goals as goal

pub returns-then-not-key_fits : goal.returns-then-not-key_fits
returns-then-not-key_fits g c =
    let below : c.loop-k.k < length c.self.inside.ops.items = omega (arith, c.loop-k-test.true, c.len-k-end.ensures.length) in
    let there : slice_get c.args.self.now.ops c.loop-k.k ≡ Some c.get-op.result = op-there c.self.inside.ops.items c.args.self.now.ops c.loop-k.k c.get-op.result (ap (λ m. m.ops) c.self.view_is) below (c.get-op.ensures c.get-op.result) in
    let unfit : is_key_of_leaf c.args.self.now c.get-op.result ≡ false = sym c.key_fits.ensures ∙ c.if-not-key_fits.true in
    seen-unfit c.args.self.now c.loop-k.k c.loop-k.seen c.loop-k.invariant c.get-op.result there unfit

pub returns-then-not-new : goal.returns-then-not-new
returns-then-not-new g c =
    let below : c.loop-k.k < length c.self.inside.ops.items = omega (arith, c.loop-k-test.true, c.len-k-end.ensures.length) in
    let there : slice_get c.args.self.now.ops c.loop-k.k ≡ Some c.get-op.result = op-there c.self.inside.ops.items c.args.self.now.ops c.loop-k.k c.get-op.result (ap (λ m. m.ops) c.self.view_is) below (c.get-op.ensures c.get-op.result) in
    let fit : is_key_of_leaf c.args.self.now c.get-op.result ≡ true = sym c.key_fits.ensures ∙ c.if-not-key_fits.false in
    let known : contains key_cmp c.loop-k.seen c.get-op.result.key ≡ true = was-there _ (sym c.in_ok-new.ensures.added ∙ c.if-not-new.true) in
    seen-again c.args.self.now c.loop-k.k c.loop-k.seen c.loop-k.invariant c.get-op.result there fit known

pub loop-k-preserved : goal.loop-k-preserved
loop-k-preserved g c =
    let below : c.loop-k.k < length c.self.inside.ops.items = omega (arith, c.loop-k-test.true, c.len-k-end.ensures.length) in
    let there : slice_get c.args.self.now.ops c.loop-k.k ≡ Some c.get-op.result = op-there c.self.inside.ops.items c.args.self.now.ops c.loop-k.k c.get-op.result (ap (λ m. m.ops) c.self.view_is) below (c.get-op.ensures c.get-op.result) in
    let fit : is_key_of_leaf c.args.self.now c.get-op.result ≡ true = sym c.key_fits.ensures ∙ c.if-not-key_fits.false in
    let new : contains key_cmp c.loop-k.seen c.get-op.result.key ≡ false = was-new _ (sym c.in_ok-new.ensures.added ∙ c.if-not-new.false) in
    seen-next c.args.self.now c.loop-k.k c.loop-k.seen c.loop-k.invariant c.get-op.result there c.insert.new.self fit new (λ q. c.in_ok-new.ensures.updates.0 q)
