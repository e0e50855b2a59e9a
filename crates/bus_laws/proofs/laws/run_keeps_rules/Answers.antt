use Rattle.bus_laws.proofs.TreeKept.{run-keeps_rules}
use Rattle.bus_laws.proofs.laws.run_keeps_rules.Goals as goal

pub returns : goal.returns
returns c = run-keeps_rules
