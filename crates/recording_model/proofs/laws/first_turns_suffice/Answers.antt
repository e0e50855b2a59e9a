use Rattle.recording_model.proofs.FirstTurns.{first-turns-suffice}
use Rattle.recording_model.proofs.laws.first_turns_suffice.Goals as goal

pub returns : goal.returns
returns c = first-turns-suffice
