use Rattle.time_laws.proofs.ForgetTurn.{turn-answer, turn-machine}
use Rattle.time_laws.proofs.laws.turns_are_blind.Goals as goal

pub returns-clause-answer : goal.returns-clause-answer
returns-clause-answer c = turn-answer

pub returns-clause-machine : goal.returns-clause-machine
returns-clause-machine c = turn-machine
