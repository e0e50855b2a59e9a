use Rattle.bus_laws.proofs.StartKept.{start-kept}
use Rattle.bus_laws.proofs.laws.start_keeps_rules.Goals as goal

pub returns-clause-shape : goal.returns-clause-shape
returns-clause-shape c = λ t i m tree built. (start-kept t i m tree built).0

pub returns-clause-rules : goal.returns-clause-rules
returns-clause-rules c = λ t i m tree built. (start-kept t i m tree built).1
