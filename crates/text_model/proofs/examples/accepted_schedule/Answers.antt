use Rattle.text_model.proofs.Schedules
use Rattle.text_model.proofs.examples.accepted_schedule.Goals as goal

pub returns-clause-read : goal.returns-clause-read
returns-clause-read c = Schedules.eight_turns_given

pub returns-clause-written : goal.returns-clause-written
returns-clause-written c = Schedules.eight_turns_written
