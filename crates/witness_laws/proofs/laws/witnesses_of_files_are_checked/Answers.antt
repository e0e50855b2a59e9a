use Rattle.witness_laws.proofs.OfFiles.{witness-checked}
use Rattle.witness_laws.proofs.laws.witnesses_of_files_are_checked.Goals as goal

pub returns : goal.returns
returns c = witness-checked
