use Rattle.std.proofs.Common.{◌≡◌, true, false, subst}
use Rattle.any_runs.specs.AnyMachine.Any.{machine_state}
use Rattle.outcomes.specs.OutcomeModel.Halted.{all_halted}
use Rattle.explorer.specs.SearchModel.Machines.{has_ways}
use Rattle.explorer.specs.Searching.{KeysTell}
use Rattle.machine_states.specs.Ready.{StatesValue}
use Rattle.machine_states.proofs.Begins.{started-runs, started-told, started-ways}
use Rattle.machine_states.proofs.machine_states.MachineStates.begins.Goals as goal

pub returns-clause-tell : goal.returns-clause-tell
returns-clause-tell c = subst (λ (v : StatesValue). KeysTell v.start.machine) c.self.view_is (started-told (machine_state c.self.inside.start).machine c.self.invariant.can.started)

pub returns-clause-ways : goal.returns-clause-ways
returns-clause-ways c = subst (λ (v : StatesValue). has_ways v.start.machine ≡ true) c.self.view_is (started-ways (machine_state c.self.inside.start).machine c.self.invariant.can.started)

pub returns-clause-runs : goal.returns-clause-runs
returns-clause-runs c = subst (λ (v : StatesValue). all_halted v.start.machine ≡ false) c.self.view_is (started-runs (machine_state c.self.inside.start).machine c.self.invariant.can.started)
