use Rattle.jam_laws.proofs.NoJam.{named-first, none-named, none-waits}
use Rattle.jam_laws.proofs.laws.unjamming_turn_is_first.Goals as goal

pub returns-clause-first : goal.returns-clause-first
returns-clause-first c = named-first

pub returns-clause-none : goal.returns-clause-none
returns-clause-none c = none-named

pub returns-clause-none_waits : goal.returns-clause-none_waits
returns-clause-none_waits c = none-waits
