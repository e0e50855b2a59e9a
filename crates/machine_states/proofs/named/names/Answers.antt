use Rattle.std.proofs.Common.{sym, ap, ◌∙◌}
use Rattle.std.specs.Prelude.{nat_lt}
use Rattle.any_runs.specs.AnyMachine.Any.{machine_state}
use Rattle.tree_model.specs.Turns.Machine.{names_part}
use Rattle.machine_states.proofs.Buses.{bus-named, leaf-named}
use Rattle.machine_states.proofs.named.names.Goals as goal

pub returns-in-Hart : goal.returns-in-Hart
returns-in-Hart c =
    let m = (machine_state c.args.machine.now).machine in
    let leaves = ap (λ n. n.leaves) c.counts.ensures.counts in
    ap (λ n. nat_lt n c.counts.result.leaves) c.hart.view_is ∙ ap (λ k. nat_lt c.in-Hart.hart k) leaves ∙ sym (leaf-named m c.counts.ensures.shape c.in-Hart.hart) ∙ sym (ap (λ t. names_part t m) c.in-Hart.is)

pub returns-in-Down : goal.returns-in-Down
returns-in-Down c =
    let m = (machine_state c.args.machine.now).machine in
    let buses = ap (λ n. n.buses) c.counts-in-Down.ensures.counts in
    ap (λ n. nat_lt n c.counts-in-Down.result.buses) c.bus.view_is ∙ ap (λ k. nat_lt c.in-Down.bus k) buses ∙ sym (bus-named m c.counts-in-Down.ensures.shape c.in-Down.bus) ∙ sym (ap (λ t. names_part t m) c.in-Down.is)
