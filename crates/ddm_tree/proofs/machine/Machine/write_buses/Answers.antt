use Rattle.std.proofs.Common.{◌≡◌, ◌<◌, [], length, ap, arith, rules}
use Rattle.std.proofs.lemmas.Bool.{eqb-true}
use Rattle.ddm_tree.specs.DdmText.Adds.{◌▸◌}
use Rattle.ddm_tree.proofs.StateWords.Nothing.{begins-after, on-err}
use Rattle.ddm_tree.specs.TreeModel.State.Values.{root_of}
use Rattle.ddm_tree.specs.TreeModel.State.Shape.{tree_counts, skeleton, buses_of, are_below, traffic_counted}
use Rattle.ddm_tree.proofs.TreeModel.Tests.{and-first}
use Rattle.ddm_tree.specs.StateWords.Machine.{bus_words}
use Rattle.ddm_tree.proofs.StateWords.OneMore.{flat_map-more}
use Rattle.state_judging.proofs.BusNumbers.{numbered-bus}
use Rattle.ddm_tree.proofs.machine.Machine.write_buses.Goals as goal

pub write_bus-requires : goal.write_bus-requires
write_bus-requires g c =
    let buses = ap (λ n. n.buses) c.counts-bus-end.ensures.counts in
    let below : c.loop-bus.bus < (tree_counts c.args.self.now.machine).buses = omega (arith, buses, c.loop-bus-test.true) in
    (search rules, numbered-bus c.args.self.now.machine c.loop-bus.bus c.counts-bus-end.ensures.shape below)

pub loop-bus-preserved : goal.loop-bus-preserved
loop-bus-preserved g c = rw (flat_map-more (bus_words c.args.self.now.machine) c.loop-bus.bus) (c.loop-bus.invariant ▸ c.in_ok-write_bus.ensures.ok)

pub returns-clause-ok : goal.returns-clause-ok
returns-clause-ok g c =
    let m = c.args.self.now.machine in
    let counted : (tree_counts m).buses ≡ length m.traffic = eqb-true _ _ (and-first _ (are_below (length m.traffic) (buses_of (skeleton (root_of m)) [])) (c.counts-bus-end.ensures.shape.each traffic_counted)) in
    let buses = ap (λ n. n.buses) c.counts-bus-end.ensures.counts in
    let last : c.loop-bus.bus ≡ length m.traffic = omega (arith, buses, counted, c.loop-bus-test.false, c.loop-bus.auto.bus-end) in
    rw last at c.loop-bus.invariant

pub returns-in_err-write_bus-clause-err : goal.returns-in_err-write_bus-clause-err
returns-in_err-write_bus-clause-err g c = on-err _ (begins-after c.loop-bus.invariant c.in_err-write_bus.ensures.err)
