use Rattle.survey_model.proofs.Ends.{surveyed-legal}
use Rattle.survey_model.proofs.laws.surveyed_ends_are_legal.Goals as goal

pub returns : goal.returns
returns c = surveyed-legal
