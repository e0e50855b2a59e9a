use Rattle.text_model.proofs.Resumed.{reading_on-append, length-held_of, Lacks-held_of}
use Rattle.text_model.proofs.laws.schedule_parts.Goals as goal

pub returns-clause-resumed : goal.returns-clause-resumed
returns-clause-resumed c = reading_on-append

pub returns-clause-held : goal.returns-clause-held
returns-clause-held c = length-held_of

pub returns-clause-no_line_feed : goal.returns-clause-no_line_feed
returns-clause-no_line_feed c = Lacks-held_of
