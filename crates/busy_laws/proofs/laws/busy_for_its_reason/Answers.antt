use Rattle.busy_laws.proofs.Turns.{busy-turn, busy-run}
use Rattle.busy_laws.proofs.laws.busy_for_its_reason.Goals as goal

pub returns-clause-turn : goal.returns-clause-turn
returns-clause-turn c = busy-turn

pub returns-clause-runs : goal.returns-clause-runs
returns-clause-runs c = busy-run
