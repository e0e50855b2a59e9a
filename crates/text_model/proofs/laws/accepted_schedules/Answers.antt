use Rattle.text_model.proofs.Given.{turns-reading_on}
use Rattle.text_model.proofs.OneSpelling.{schedule_text-schedule_of}
use Rattle.text_model.proofs.laws.accepted_schedules.Goals as goal

pub returns-clause-one_spelling : goal.returns-clause-one_spelling
returns-clause-one_spelling c = schedule_text-schedule_of

pub returns-clause-turns : goal.returns-clause-turns
returns-clause-turns c = turns-reading_on
