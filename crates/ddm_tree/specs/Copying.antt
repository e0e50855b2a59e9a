-- When a part of a tree can become a copy of another one, and what a machine is that became one.
-- To be believed with the contracts: it says which machines the call takes, and how much room they have afterwards.
use Rattle.std.specs.Prelude.{◌≡◌, ℕ, ◌+◌, ◌-◌, ◌≤◌, true, length, min}
use Rattle.ddm_tree.specs.TreeModel.State.Values.{Node}
use Rattle.ddm_tree.specs.TreeModel.State.Rooms.{all_within}
use Rattle.ddm_tree.specs.TreeModel.State.Shape.{frame_of, skeleton}
use Rattle.ddm_tree.specs.Machine.{MachineState}

-- two parts have the same nodes with the same sizes, and keep something of as many items
pub record AreAlike (n m : Node) : Type 0 where
  pub bones : skeleton n ≡ skeleton m
  pub items : ℕ
  pub within : all_within items n ≡ true
  pub other_within : all_within items m ≡ true

-- two machines have the same nodes with the same sizes, the same code and items, and there is room in the one for the operations
-- of the other
pub record CanCopy (s from : MachineState) : Type 0 where
  pub frame : frame_of s.machine ≡ frame_of from.machine
  pub room : length from.machine.ops ≤ length s.machine.ops + s.spare

-- the other machine, with all room for operations that there was
abbrev pub copied : MachineState → MachineState → MachineState
copied s from = record from { spare = min 4294967295 (length s.machine.ops + s.spare - length from.machine.ops) }
