use Rattle.order_laws.proofs.EveryTurn.{every_turn-keeps_time}
use Rattle.order_laws.proofs.Timed.Machine.{turn-keeps_commands}
use Rattle.order_laws.proofs.laws.turn_keeps_time.Goals as goal

pub returns-clause-time : goal.returns-clause-time
returns-clause-time c = every_turn-keeps_time

pub returns-clause-commands : goal.returns-clause-commands
returns-clause-commands c = turn-keeps_commands
