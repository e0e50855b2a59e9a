use Rattle.std.proofs.Common.{◌≡◌, Some, sym, subst, ap, ◌∙◌, arith}
use Rattle.ddm_tree.specs.TreeModel.State.Shape.{IsShaped, tree_counts}
use Rattle.ddm_tree.specs.TreeModel.Turns.Machine.{now_of}
use Rattle.ddm_tree.specs.Keys.{is_key_before}
use Rattle.ddm_tree.proofs.KeysJudged.{key-judged, depth-bounds}
use Rattle.ddm_tree.proofs.TimedParts.{passes-past, leaf-part}
use Rattle.ddm_tree.proofs.parts.Parts.key_fits.Goals as goal

pub returns-then-op-self : goal.returns-then-op-self
returns-then-op-self g c =
    let shaped : IsShaped c.args.self.now = subst IsShaped c.self.view_is c.self.invariant.0.readable.shaped in
    let size : tree_counts c.args.self.now ≡ c.self.inside.counts = ap tree_counts (sym c.self.view_is) ∙ c.self.invariant.1 in
    let hart = ap (λ o. o.hart) c.op.view_is in
    passes-past c.args.self.now c.args.op.now shaped (omega (arith, c.if-op-self.true, hart, ap (λ n. n.leaves) size))

pub leaf_now-now-requires : goal.leaf_now-now-requires
leaf_now-now-requires g c =
    let shaped : IsShaped c.args.self.now = subst IsShaped c.self.view_is c.self.invariant.0.readable.shaped in
    let size : tree_counts c.args.self.now ≡ c.self.inside.counts = ap tree_counts (sym c.self.view_is) ∙ c.self.invariant.1 in
    (omega arith, leaf-part c.args.self.now _ c.self.inside.counts.leaves shaped (ap (λ n. n.leaves) size) (omega (arith, c.if-op-self.false)))

pub is_key_before-requires-clause-some : goal.is_key_before-requires-clause-some
is_key_before-requires-clause-some g c =
    let size : tree_counts c.args.self.now ≡ c.self.inside.counts = ap tree_counts (sym c.self.view_is) ∙ c.self.invariant.1 in
    let read : Some c.leaf_now-now.result ≡ now_of c.args.op.now.hart c.args.self.now = c.leaf_now-now.ensures.now ∙ ap (λ o. now_of o.hart c.args.self.now) c.op.view_is in
    let bounds = depth-bounds c.args.self.now c.args.op.now c.leaf_now-now.ensures.shaped c.leaf_now-now.result read in
    omega (arith, bounds.0, ap (λ n. n.depth) size)

pub is_key_before-requires-clause-few : goal.is_key_before-requires-clause-few
is_key_before-requires-clause-few g c =
    let size : tree_counts c.args.self.now ≡ c.self.inside.counts = ap tree_counts (sym c.self.view_is) ∙ c.self.invariant.1 in
    let read : Some c.leaf_now-now.result ≡ now_of c.args.op.now.hart c.args.self.now = c.leaf_now-now.ensures.now ∙ ap (λ o. now_of o.hart c.args.self.now) c.op.view_is in
    let bounds = depth-bounds c.args.self.now c.args.op.now c.leaf_now-now.ensures.shaped c.leaf_now-now.result read in
    omega (arith, bounds.1, ap (λ n. n.depth) size)

pub returns : goal.returns
returns g c =
    let size : tree_counts c.args.self.now ≡ c.self.inside.counts = ap tree_counts (sym c.self.view_is) ∙ c.self.invariant.1 in
    let read : Some c.leaf_now-now.result ≡ now_of c.args.op.now.hart c.args.self.now = c.leaf_now-now.ensures.now ∙ ap (λ o. now_of o.hart c.args.self.now) c.op.view_is in
    let key = ap (λ o. o.key) c.op.view_is in
    c.is_key_before.ensures ∙ ap (is_key_before c.self.inside.counts.depth c.leaf_now-now.result) key ∙ ap (λ n. is_key_before n c.leaf_now-now.result c.args.op.now.key) (sym (ap (λ n. n.depth) size)) ∙ key-judged c.args.self.now c.args.op.now c.leaf_now-now.ensures.shaped c.leaf_now-now.result read
