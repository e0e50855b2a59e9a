use Rattle.file_laws.proofs.Schedules.{seeded-read}
use Rattle.file_laws.proofs.laws.seeded_schedules.Goals as goal

pub returns : goal.returns
returns c = seeded-read
