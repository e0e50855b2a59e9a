use Rattle.std.proofs.Common.{◌<◌, ◌≤◌, length, ap, get_or, arith}
use Rattle.std.proofs.lemmas.List.{take_all}
use Rattle.report.specs.DdmText.Adds.{◌▸◌}
use Rattle.report.proofs.MachineLines.{buses-counted}
use Rattle.recording.specs.AnyMachine.Any.{state_in}
use Rattle.recording.proofs.InspectorCrate.OneMore.{got-some}
use Rattle.recording_model.specs.TreeModel.Turns.Machine.{no_traffic}
use Rattle.measure_model.specs.Text.{bus_counts_line}
use Rattle.measuring.proofs.Listed.{buses-paired, pair-next}
use Rattle.measuring.proofs.text.push_buses.Goals as goal

pub bounds-traffic-bus : goal.bounds-traffic-bus
bounds-traffic-bus g c =
    let buses = ap (λ n. n.buses) c.counts-bus-end.ensures.counts in
    let size = buses-counted (state_in c.args.machine.now).machine c.counts-bus-end.ensures.shape in
    let same = ap length c.traffic.ensures in
    omega (arith, buses, size, same, c.loop-bus-test.true)

pub loop-bus-preserved : goal.loop-bus-preserved
loop-bus-preserved g c =
    let ts = (state_in c.args.machine.now).machine.traffic in
    let k = c.loop-bus.bus in
    let buses = ap (λ n. n.buses) c.counts-bus-end.ensures.counts in
    let size = buses-counted (state_in c.args.machine.now).machine c.counts-bus-end.ensures.shape in
    let inside : k < length ts = omega (arith, buses, size, c.loop-bus-test.true) in
    let counted : k < length c.args.busy.now = omega (arith, buses, c.requires, c.loop-bus-test.true) in
    rw (pair-next bus_counts_line k ts c.args.busy.now (get_or ts k no_traffic) (get_or c.args.busy.now k 0) (got-some ts k no_traffic inside) (got-some c.args.busy.now k 0 counted))
    (c.loop-bus.invariant ▸ rw c.traffic.ensures at c.in_ok-push_bus.ensures)

pub returns : goal.returns
returns g c =
    let ts = (state_in c.args.machine.now).machine.traffic in
    let buses = ap (λ n. n.buses) c.counts-bus-end.ensures.counts in
    let size = buses-counted (state_in c.args.machine.now).machine c.counts-bus-end.ensures.shape in
    let past : length ts ≤ c.loop-bus.bus = omega (arith, buses, size, c.loop-bus-test.false) in
    let counted : length c.args.busy.now ≤ c.loop-bus.bus = omega (arith, buses, c.requires, c.loop-bus-test.false) in
    rw (buses-paired 0 ts c.args.busy.now) (rw (take_all c.loop-bus.bus ts past, take_all c.loop-bus.bus c.args.busy.now counted) at c.loop-bus.invariant)
