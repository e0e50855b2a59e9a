use Rattle.ddm_cli.proofs.SeededRuns.{seeds-print}
use Rattle.ddm_cli.proofs.laws.seeded_runs.Goals as goal

pub returns : goal.returns
returns c = seeds-print
