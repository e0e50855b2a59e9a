use Rattle.std.proofs.Common.{◌≡◌, ◌-◌, ◌<◌, ◌≤◌, length, sym, subst, ap, ◌∙◌, arith}
use Rattle.std.specs.List.{find, range_with_len}
use Rattle.ddm_tree.specs.TreeModel.State.Shape.{IsShaped, tree_counts}
use Rattle.ddm_tree.specs.TreeRules.Order.Places.{dirs_at}
use Rattle.state_judging.specs.Judged.{stamps_broken}
use Rattle.state_judging.proofs.BusNumbers.{numbered-bus}
use Rattle.ddm_tree.proofs.KeysSeen.{found-here, found-later, found-none}
use Rattle.ddm_tree.proofs.TimedParts.{buses-counted}
use Rattle.ddm_tree.proofs.parts.Parts.broken_stamp.Goals as goal

pub loop-bus-init : goal.loop-bus-init
loop-bus-init g c =
    let whole : length c.args.self.now.traffic - 0 ≡ length c.args.self.now.traffic = omega arith in
    ap (λ j. find (stamps_broken (dirs_at c.args.self.now)) (range_with_len 0 j)) whole

pub stamps_broken-requires : goal.stamps_broken-requires
stamps_broken-requires g c =
    let shaped : IsShaped c.args.self.now = subst IsShaped c.self.view_is c.self.invariant.0.readable.shaped in
    let size : tree_counts c.args.self.now ≡ c.self.inside.counts = ap tree_counts (sym c.self.view_is) ∙ c.self.invariant.1 in
    (omega arith, numbered-bus c.args.self.now c.loop-bus.bus shaped (omega (arith, c.loop-bus-test.true, ap (λ n. n.buses) size)))

pub returns-then-stamps_broken : goal.returns-then-stamps_broken
returns-then-stamps_broken g c =
    let shaped : IsShaped c.args.self.now = subst IsShaped c.self.view_is c.self.invariant.0.readable.shaped in
    let size : tree_counts c.args.self.now ≡ c.self.inside.counts = ap tree_counts (sym c.self.view_is) ∙ c.self.invariant.1 in
    let below : c.loop-bus.bus < length c.args.self.now.traffic = omega (arith, c.loop-bus-test.true, ap (λ n. n.buses) size, buses-counted c.args.self.now shaped) in
    found-here (stamps_broken (dirs_at c.args.self.now)) (length c.args.self.now.traffic) c.loop-bus.bus c.loop-bus.invariant below (sym c.stamps_broken.ensures ∙ c.if-stamps_broken.true)

pub loop-bus-preserved : goal.loop-bus-preserved
loop-bus-preserved g c =
    let shaped : IsShaped c.args.self.now = subst IsShaped c.self.view_is c.self.invariant.0.readable.shaped in
    let size : tree_counts c.args.self.now ≡ c.self.inside.counts = ap tree_counts (sym c.self.view_is) ∙ c.self.invariant.1 in
    let below : c.loop-bus.bus < length c.args.self.now.traffic = omega (arith, c.loop-bus-test.true, ap (λ n. n.buses) size, buses-counted c.args.self.now shaped) in
    found-later (stamps_broken (dirs_at c.args.self.now)) (length c.args.self.now.traffic) c.loop-bus.bus c.loop-bus.invariant below (sym c.stamps_broken.ensures ∙ c.if-stamps_broken.false)

pub returns : goal.returns
returns g c =
    let shaped : IsShaped c.args.self.now = subst IsShaped c.self.view_is c.self.invariant.0.readable.shaped in
    let size : tree_counts c.args.self.now ≡ c.self.inside.counts = ap tree_counts (sym c.self.view_is) ∙ c.self.invariant.1 in
    let past : length c.args.self.now.traffic ≤ c.loop-bus.bus = omega (arith, c.loop-bus-test.false, ap (λ n. n.buses) size, buses-counted c.args.self.now shaped) in
    found-none (stamps_broken (dirs_at c.args.self.now)) (length c.args.self.now.traffic) c.loop-bus.bus c.loop-bus.invariant past
