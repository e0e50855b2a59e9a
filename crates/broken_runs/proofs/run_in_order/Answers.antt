use Rattle.broken_runs.proofs.Positive.{run-is, witnessed, run-in_order}
use Rattle.broken_runs.proofs.run_in_order.Goals as goal

pub returns : goal.returns
returns c = record { run = run-is; witnessed = witnessed; run_witnessed = run-in_order }
