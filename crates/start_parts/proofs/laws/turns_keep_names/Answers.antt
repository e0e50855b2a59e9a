use Rattle.start_parts.proofs.Names.{turn-names, run-names}
use Rattle.start_parts.proofs.laws.turns_keep_names.Goals as goal

pub returns-clause-turn : goal.returns-clause-turn
returns-clause-turn c = turn-names

pub returns-clause-run : goal.returns-clause-run
returns-clause-run c = run-names
