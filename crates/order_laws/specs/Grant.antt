-- What a bus's turn keeps of the core rules of order, and the three of them that are taken from elsewhere.
-- Proofs alone need it.
use Rattle.std.specs.Prelude.{ℕ, ◌<◌}
use Rattle.order_laws.specs.DdmTypes.declared.turns.Turn.{Turn}
use Rattle.order_laws.specs.FlatModel.Flat.{FlatMachine}
use Rattle.order_laws.specs.TreeModel.State.Values.{MachineValue}
use Rattle.order_laws.specs.TreeModel.State.Shape.{IsShaped}
use Rattle.order_laws.specs.TreeModel.Turns.Machine.{turn_of}
use Rattle.order_laws.specs.TreeRules.Statements.{Holds}
use Rattle.order_laws.specs.TreeRules.Bus.Rules.{items_of_machine, IsMachineOk}
use Rattle.order_laws.specs.TreeRules.Order.Rules.{commands_past_taken, reservations_kept, core_rule}
use Rattle.order_laws.specs.TreeRules.Order.Rules.{claims_after_copies, copy_rule, IsTimed, IsCore}
use Rattle.order_laws.specs.Moves.CopiesMoved.{IsBusTurn}

-- the machine after the turn
abbrev pub after_bus : Turn → MachineValue → MachineValue
after_bus t m = (turn_of t m).machine

-- commands are past what the buses took over, of the machine afterwards
abbrev pub CommandsPastAfter : FlatMachine → MachineValue → Turn → Type 0
CommandsPastAfter s m t = Holds (core_rule commands_past_taken s (after_bus t m))

-- and each leaf that has an item reserved has it reserved in the flat machine
abbrev pub ReservationsAfter : FlatMachine → MachineValue → Turn → Type 0
ReservationsAfter s m t = Holds (core_rule reservations_kept s (after_bus t m))

-- and each claim is after the ends of the copies beside it
abbrev pub ClaimsAfterCopies : FlatMachine → MachineValue → Turn → Type 0
ClaimsAfterCopies s m t = (x : ℕ) → x < items_of_machine m → Holds (copy_rule claims_after_copies s (after_bus t m) x)

-- with these a bus's turn keeps the core rules, with the same start
abbrev pub BusTurnKeepsCore : Type 0
BusTurnKeepsCore =
    (s : FlatMachine) (m : MachineValue) (t : Turn) → IsShaped m → IsMachineOk m → IsTimed m → IsBusTurn t →
    CommandsPastAfter s m t → ReservationsAfter s m t → ClaimsAfterCopies s m t → IsCore s m →
    IsCore s (after_bus t m)

-- it keeps each claim after the ends of the copies beside it
abbrev pub BusTurnKeepsClaims : Type 0
BusTurnKeepsClaims =
    (s : FlatMachine) (m : MachineValue) (t : Turn) → IsShaped m → IsMachineOk m → IsTimed m → IsBusTurn t →
    IsCore s m → ClaimsAfterCopies s m t
