use Rattle.jam_laws.proofs.NoJam.{run-granted}
use Rattle.jam_laws.proofs.laws.no_run_jams.Goals as goal

pub returns : goal.returns
returns c = run-granted
