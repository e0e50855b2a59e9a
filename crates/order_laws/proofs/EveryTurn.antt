-- Every turn, a hart's or one of a bus, keeps the rules of time and the core rules; so does a run.
use Rattle.std.proofs.Common.{[], ◌∷◌}
use Rattle.order_laws.specs.DdmTypes.declared.turns.Turn.{Turn}
use Rattle.order_laws.specs.FlatModel.Flat.{FlatMachine}
use Rattle.order_laws.specs.TreeModel.State.Values.{MachineValue}
use Rattle.order_laws.specs.TreeModel.State.Shape.{IsShaped}
use Rattle.order_laws.specs.TreeModel.Turns.Machine.{turn_of, run_of}
use Rattle.order_laws.proofs.TreeModel.FrameKept.{turn-shape}
use Rattle.order_laws.specs.TreeRules.Bus.Rules.{IsMachineOk}
use Rattle.order_laws.specs.TreeRules.Order.Rules.{commands_past_taken, IsTimed, IsCore}
use Rattle.bus_laws.proofs.TreeKept.{turn-keeps_rules}
use Rattle.order_laws.specs.EveryTurn.{EveryTurnKeepsTime, TurnKeepsCore, IsOrderly, RunStaysOrderly}
use Rattle.order_laws.specs.Moves.CopiesMoved.{IsBusTurn}
use Rattle.order_laws.proofs.Hart.CoreTurn.{hart-turn-core}
use Rattle.order_laws.proofs.Hart.Timed.{hart-turn-timed}
use Rattle.order_laws.proofs.Timed.Grants.{bus_turn-keeps_time}
use Rattle.order_laws.proofs.Timed.Machine.{turn-keeps_commands}
use Rattle.order_laws.proofs.Grant.OwnCopies.{own-copies-stay}
use Rattle.order_laws.proofs.Grant.ReservedKept.{core-after-bus}
use Rattle.order_laws.proofs.Grant.ClaimsCopies.{bus_turn-keeps_claims}

pub every_turn-keeps_time : EveryTurnKeepsTime
every_turn-keeps_time (Turn.Hart hart victim) m shaped ok timed = hart-turn-timed hart victim m shaped ok timed
every_turn-keeps_time (Turn.Down bus) m shaped ok timed = bus_turn-keeps_time (Turn.Down bus) m tt shaped ok.top timed
every_turn-keeps_time (Turn.Request bus child) m shaped ok timed = bus_turn-keeps_time (Turn.Request bus child) m tt shaped ok.top timed
every_turn-keeps_time (Turn.Reply bus child) m shaped ok timed = bus_turn-keeps_time (Turn.Reply bus child) m tt shaped ok.top timed
every_turn-keeps_time (Turn.Leave bus child choice) m shaped ok timed = bus_turn-keeps_time (Turn.Leave bus child choice) m tt shaped ok.top timed

-- ---- the core rules

bus-core : (t : Turn) (m : MachineValue) (s : FlatMachine) → IsBusTurn t → IsShaped m → IsMachineOk m → IsTimed m → IsCore s m → IsCore s (turn_of t m).machine
bus-core t m s bus shaped ok timed core =
    core-after-bus s m t shaped ok timed (every_turn-keeps_time t m shaped ok timed) bus (turn-keeps_commands t m shaped ok.top timed (core.each commands_past_taken)) (own-copies-stay m t shaped ok timed (core.each commands_past_taken) bus)
    (bus_turn-keeps_claims s m t shaped ok timed bus core) core

pub core-turn : TurnKeepsCore
core-turn (Turn.Hart hart victim) m s shaped ok timed core = hart-turn-core s hart victim m shaped ok timed core
core-turn (Turn.Down bus) m s shaped ok timed core = bus-core (Turn.Down bus) m s tt shaped ok timed core
core-turn (Turn.Request bus child) m s shaped ok timed core = bus-core (Turn.Request bus child) m s tt shaped ok timed core
core-turn (Turn.Reply bus child) m s shaped ok timed core = bus-core (Turn.Reply bus child) m s tt shaped ok timed core
core-turn (Turn.Leave bus child choice) m s shaped ok timed core = bus-core (Turn.Leave bus child choice) m s tt shaped ok timed core

-- ---- all that every turn keeps

pub turn-orderly : (s : FlatMachine) (m : MachineValue) (t : Turn) → IsOrderly s m → IsOrderly s (turn_of t m).machine
turn-orderly s m t r = record {
  shaped = turn-shape t m r.shaped;
  buses = turn-keeps_rules t m r.buses;
  timed = every_turn-keeps_time t m r.shaped r.buses r.timed;
  core = core-turn t m s r.shaped r.buses r.timed r.core;
}

pub run-orderly : RunStaysOrderly
unfolding run_of
run-orderly s m [] r = r
run-orderly s m (t ∷ ts) r = run-orderly s (turn_of t m).machine ts (turn-orderly s m t r)
