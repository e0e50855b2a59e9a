-- A turn of a bus: where the copies of each item in the machine come from.
-- To be believed where a rule is relied on; the order of the witness needs no reader here.
use Rattle.std.specs.Prelude.{◌≡◌, ℕ, ◌<◌, true, length}
use Rattle.std.specs.List.{AllByRecursion}
use Rattle.std.proofs.Common.{◌⊎◌}
use Rattle.order_laws.specs.DdmTypes.declared.turns.Turn.{Turn}
use Rattle.order_laws.specs.TreeModel.State.Values.{dir_node, MachineValue, root_of}
use Rattle.order_laws.specs.TreeModel.Turns.Machine.{turn_of}
use Rattle.order_laws.specs.TreeRules.Order.Copies.{copies_of}
use Rattle.order_laws.specs.TreeRules.Bus.Rules.{items_of_machine}
use Rattle.order_laws.specs.TreeRules.Order.Claims.{claims_of}
use Rattle.order_laws.specs.TreeRules.Order.Places.{leaves_at}
use Rattle.order_laws.specs.TreeRules.Order.Moments.{less_at, moment_length}
use Rattle.order_laws.specs.Moves.Moved.{AllFrom}
use Rattle.order_laws.specs.Moves.ClaimsMoved.{ClaimsFrom}
use Rattle.order_laws.specs.Moves.LeavesKept.{LeavesKept}
use Rattle.order_laws.specs.Moves.Carries.{IsBelowOld, node_at, BusTurned, old_moment, new_moment, MovedBy, NewErases}

abbrev pub IsBusTurn : Turn → Type 0
IsBusTurn (Turn.Hart hart victim) = ⊥
IsBusTurn (Turn.Down bus) = Unit {0}
IsBusTurn (Turn.Request bus child) = Unit {0}
IsBusTurn (Turn.Reply bus child) = Unit {0}
IsBusTurn (Turn.Leave bus child choice) = Unit {0}

-- One bus was granted something, and its present moment rose. Of one item: each copy afterwards comes from one before, each claim
-- is one before or of the new moment, and each erase inside a child of the bus was there before or is of the new moment. Every leaf
-- is where it was.
pub record TurnMoves (x : ℕ) (m m' : MachineValue) : Type 0 where
  pub bus : BusTurned
  pub before : node_at bus.path (root_of m) ≡ dir_node bus.dir bus.kids
  pub after : node_at bus.path (root_of m') ≡ dir_node bus.dir_after bus.kids_after
  pub deep : length bus.path < 4
  pub rises : less_at (moment_length (length bus.path)) (old_moment bus) (new_moment bus) ≡ true
  pub copies : AllFrom (MovedBy x bus) (copies_of x m) (copies_of x m')
  pub claims : x < items_of_machine m → ClaimsFrom bus.path (new_moment bus) (claims_of x m) (claims_of x m')
  pub erases : NewErases x bus
  pub leaves : LeavesKept (leaves_at m) (leaves_at m')
  -- before it no leaf under the bus was past the bus's moment
  pub nows : AllByRecursion (IsBelowOld bus) (leaves_at m)

-- or nothing was granted, and the tree is as it was
abbrev pub MovesOf : Turn → MachineValue → ℕ → Type 0
MovesOf t m x = (root_of (turn_of t m).machine ≡ root_of m) ⊎ TurnMoves x m (turn_of t m).machine

-- ---- the parts by themselves

abbrev pub CopiesMoved : Turn → MachineValue → ℕ → Type 0
CopiesMoved t m x =
    (root_of (turn_of t m).machine ≡ root_of m)
    ⊎ ((bus : BusTurned) × AllFrom (MovedBy x bus) (copies_of x m) (copies_of x (turn_of t m).machine))

abbrev pub ClaimsMoved : Turn → MachineValue → ℕ → Type 0
ClaimsMoved t m x =
    (root_of (turn_of t m).machine ≡ root_of m)
    ⊎ ((bus : BusTurned)
    × ClaimsFrom bus.path (new_moment bus) (claims_of x m) (claims_of x (turn_of t m).machine))

abbrev pub ErasesNew : Turn → MachineValue → ℕ → Type 0
ErasesNew t m x =
    (root_of (turn_of t m).machine ≡ root_of m)
    ⊎ ((bus : BusTurned)
    × ((node_at bus.path (root_of m) ≡ dir_node bus.dir bus.kids)
    × ((node_at bus.path (root_of (turn_of t m).machine) ≡ dir_node bus.dir_after bus.kids_after)
    × NewErases x bus)))
