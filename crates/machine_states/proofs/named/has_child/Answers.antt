use Rattle.std.proofs.Common.{◌<◌, ◌≤◌, sym, ap, ◌∙◌, arith}
use Rattle.any_runs.specs.AnyMachine.Any.{machine_state}
use Rattle.tree_model.specs.State.Shape.{tree_counts}
use Rattle.state_judging.proofs.BusNumbers.{numbered-bus}
use Rattle.machine_states.proofs.Buses.{child-named, not-less}
use Rattle.machine_states.proofs.named.has_child.Goals as goal

pub children-requires : goal.children-requires
children-requires c =
    let m = (machine_state c.args.machine.now).machine in
    let buses = ap (λ n. n.buses) c.counts.ensures.counts in
    let below : c.args.bus < (tree_counts m).buses = omega (arith, buses, c.bus.view_is, c.if-bus-counts.true) in
    numbered-bus m c.args.bus c.counts.ensures.shape below

pub returns-else-bus-counts : goal.returns-else-bus-counts
returns-else-bus-counts c =
    let m = (machine_state c.args.machine.now).machine in
    let buses = ap (λ n. n.buses) c.counts.ensures.counts in
    let past : (tree_counts m).buses ≤ c.args.bus = omega (arith, buses, c.bus.view_is, c.if-bus-counts.false) in
    not-less c.bus.inside.0 c.counts.result.buses (omega (arith, c.if-bus-counts.false)) ∙ sym (child-named m c.counts.ensures.shape c.args.bus c.args.child (not-less c.args.bus (tree_counts m).buses past))
