use Rattle.ddm_cli.proofs.CheckedRuns.{reports-pass}
use Rattle.ddm_cli.proofs.laws.checked_reports.Goals as goal

pub returns : goal.returns
returns c = reports-pass
