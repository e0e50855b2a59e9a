use Rattle.text_model.proofs.Parts.{reading_on-open, reading_on-long, reading_on-line}
use Rattle.text_model.proofs.laws.schedule_lines.Goals as goal

pub returns-clause-open : goal.returns-clause-open
returns-clause-open c = reading_on-open

pub returns-clause-long : goal.returns-clause-long
returns-clause-long c = reading_on-long

pub returns-clause-whole : goal.returns-clause-whole
returns-clause-whole c = reading_on-line
