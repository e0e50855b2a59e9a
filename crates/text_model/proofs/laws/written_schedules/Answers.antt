use Rattle.text_model.proofs.ReadBack.{schedule_of-schedule_text}
use Rattle.text_model.proofs.laws.written_schedules.Goals as goal

pub returns : goal.returns
returns c = record { read_back = schedule_of-schedule_text }
