use Rattle.time_laws.proofs.Alike.{answer-alike, turn-alike, run-alike, answers-alike, leaves-alike, turn-puts}
use Rattle.time_laws.proofs.laws.alike_stays.Goals as goal

pub returns-clause-puts : goal.returns-clause-puts
returns-clause-puts c = turn-puts

pub returns-clause-answer : goal.returns-clause-answer
returns-clause-answer c = answer-alike

pub returns-clause-machine : goal.returns-clause-machine
returns-clause-machine c = turn-alike

pub returns-clause-answers : goal.returns-clause-answers
returns-clause-answers c = answers-alike

pub returns-clause-run : goal.returns-clause-run
returns-clause-run c = run-alike

pub returns-clause-leaves : goal.returns-clause-leaves
returns-clause-leaves c = leaves-alike
