-- A turn of a bus completes no instruction, so it keeps the rules of time.
use Rattle.order_laws.specs.Timed.{BusTurnKeepsTime}
use Rattle.order_laws.proofs.Moves.TurnFrame.{ops-same}
use Rattle.order_laws.proofs.Timed.Machine.{turn-keeps_time}

pub bus_turn-keeps_time : BusTurnKeepsTime
bus_turn-keeps_time t m bus shaped top timed = turn-keeps_time t m shaped top timed (ops-same t m bus)
