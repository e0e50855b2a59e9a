use Rattle.start_parts.proofs.HeldBelow.{over-count, over-at}
use Rattle.start_parts.proofs.laws.directory_holds_what_children_hold.Goals as goal

pub returns-clause-count : goal.returns-clause-count
returns-clause-count c = over-count

pub returns-clause-each : goal.returns-clause-each
returns-clause-each c = over-at
