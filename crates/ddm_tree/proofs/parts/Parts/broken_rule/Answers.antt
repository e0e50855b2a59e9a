use Rattle.std.proofs.Common.{◌≡◌, ◌∙◌, Some, None, length, refl, ap, sym, subst, arith}
use Rattle.ddm_tree.specs.StateReading.declared.StateRefusal.TheVariants.{BrokenRule}
use Rattle.std.specs.List.{range_with_len}
use Rattle.ddm_tree.specs.TreeModel.State.Shape.{IsShaped, tree_counts}
use Rattle.state_judging.specs.Judged.{broken_among}
use Rattle.ddm_tree.proofs.PartsJudged.{bus-broken, bus-holds, bus-inside, bus-there, buses-hold, past-buses}
use Rattle.ddm_tree.proofs.parts.Parts.broken_rule.Goals as goal

pub broken_item-requires : goal.broken_item-requires
broken_item-requires g c =
    let shaped : IsShaped c.args.self.now = subst IsShaped c.self.view_is c.self.invariant.0.readable.shaped in
    let counted : tree_counts c.args.self.now ≡ c.self.inside.counts = ap tree_counts (sym c.self.view_is) ∙ c.self.invariant.1 in
    (omega arith, bus-there c.args.self.now c.self.inside.counts c.loop-bus.bus shaped counted c.loop-bus-test.true)

pub returns-in-Some : goal.returns-in-Some
returns-in-Some g c =
    let shaped : IsShaped c.args.self.now = subst IsShaped c.self.view_is c.self.invariant.0.readable.shaped in
    let counted : tree_counts c.args.self.now ≡ c.self.inside.counts = ap tree_counts (sym c.self.view_is) ∙ c.self.invariant.1 in
    let inside = bus-inside c.args.self.now c.self.inside.counts c.loop-bus.bus shaped counted c.loop-bus-test.true in
    ap (λ x. Some (BrokenRule c.loop-bus.bus x)) c.item.view_is ∙ bus-broken c.args.self.now (length c.args.self.now.traffic) c.loop-bus.bus inside (broken_among c.args.self.now (range_with_len 0 (length c.args.self.now.traffic))) c.loop-bus.invariant (Some c.in-Some.item) c.in-Some.ensures c.in-Some.item refl

pub loop-bus-preserved : goal.loop-bus-preserved
loop-bus-preserved g c =
    let shaped : IsShaped c.args.self.now = subst IsShaped c.self.view_is c.self.invariant.0.readable.shaped in
    let counted : tree_counts c.args.self.now ≡ c.self.inside.counts = ap tree_counts (sym c.self.view_is) ∙ c.self.invariant.1 in
    let inside = bus-inside c.args.self.now c.self.inside.counts c.loop-bus.bus shaped counted c.loop-bus-test.true in
    bus-holds c.args.self.now (length c.args.self.now.traffic) c.loop-bus.bus inside (broken_among c.args.self.now (range_with_len 0 (length c.args.self.now.traffic))) c.loop-bus.invariant None c.in_default.ensures refl

pub returns : goal.returns
returns g c =
    let shaped : IsShaped c.args.self.now = subst IsShaped c.self.view_is c.self.invariant.0.readable.shaped in
    let counted : tree_counts c.args.self.now ≡ c.self.inside.counts = ap tree_counts (sym c.self.view_is) ∙ c.self.invariant.1 in
    let past = past-buses c.args.self.now c.self.inside.counts c.loop-bus.bus shaped counted c.loop-bus-test.false in
    buses-hold c.args.self.now (length c.args.self.now.traffic) c.loop-bus.bus (broken_among c.args.self.now (range_with_len 0 (length c.args.self.now.traffic))) past c.loop-bus.invariant
