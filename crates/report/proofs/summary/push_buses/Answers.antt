use Rattle.std.proofs.Common.{◌<◌, ◌≤◌, length, ap, sym, arith}
use Rattle.std.proofs.lemmas.List.{append-nil, take_all}
use Rattle.report.specs.DdmText.Adds.{◌▸◌}
use Rattle.text_model.specs.Report.{bus_lines_from}
use Rattle.any_machine.specs.Any.{state_in}
use Rattle.report.proofs.MachineLines.{buses-counted, more-buses}
use Rattle.report.proofs.summary.push_buses.Goals as goal

pub loop-bus-init : goal.loop-bus-init
unfolding bus_lines_from
loop-bus-init g c = record { is = sym (append-nil c.args.out.now.items) }

pub bounds-traffic-bus : goal.bounds-traffic-bus
bounds-traffic-bus g c =
    let buses = ap (λ n. n.buses) c.counts-bus-end.ensures.counts in
    let size = buses-counted (state_in c.args.machine.now).machine c.counts-bus-end.ensures.shape in
    let same = ap length c.traffic.ensures in
    omega (arith, buses, size, same, c.loop-bus-test.true)

pub loop-bus-preserved : goal.loop-bus-preserved
loop-bus-preserved g c =
    let ts = (state_in c.args.machine.now).machine.traffic in
    let buses = ap (λ n. n.buses) c.counts-bus-end.ensures.counts in
    let size = buses-counted (state_in c.args.machine.now).machine c.counts-bus-end.ensures.shape in
    let inside : c.loop-bus.bus < length ts = omega (arith, buses, size, c.loop-bus-test.true) in
    rw (more-buses ts c.loop-bus.bus inside) (c.loop-bus.invariant ▸ rw c.traffic.ensures at c.in_ok-push_bus_line.ensures.text)

pub returns : goal.returns
returns g c =
    let buses = ap (λ n. n.buses) c.counts-bus-end.ensures.counts in
    let size = buses-counted (state_in c.args.machine.now).machine c.counts-bus-end.ensures.shape in
    let past : length (state_in c.args.machine.now).machine.traffic ≤ c.loop-bus.bus = omega (arith, buses, size, c.loop-bus-test.false) in
    rw (take_all c.loop-bus.bus (state_in c.args.machine.now).machine.traffic past) at c.loop-bus.invariant
