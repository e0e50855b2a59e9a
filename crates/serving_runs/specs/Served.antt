-- What a list of operations comes to that is served by the machine of a tree, before its first turn.
-- Letters: t is a tree, i an image, m its machine.
-- To be believed: it is what is printed.
use Rattle.std.specs.Prelude.{◌≡◌, ◌≤◌, ℕ, List, Result, Ok, Err, true, length, if◌then◌else◌}
use Rattle.serving_runs.specs.BusLaws.IsTree.{IsTree}
use Rattle.serving_runs.specs.DdmTypes.ItemTable.{item_count}
use Rattle.serving_runs.specs.DdmTypes.declared.operations.Op.{Op}
use Rattle.serving_runs.specs.DdmTypes.declared.turns.Turn.{Turn}
use Rattle.serving_runs.specs.FlatModel.Legal.{Legal}
use Rattle.serving_runs.specs.TreeModel.Start.Machine.{flat_start_of, start_of}
use Rattle.serving_runs.specs.TreeModel.Start.Sources.{ImageValue, TreeValue}
use Rattle.serving_runs.specs.TreeModel.State.Values.{MachineValue}
use Rattle.serving_runs.specs.TreeModel.Turns.Machine.{run_of}
use Rattle.serving_runs.specs.ServingModel.Rest.{sizes_have_room}
use Rattle.serving_runs.specs.ServingModel.ServedLists.{same_operations}
use Rattle.serving_runs.specs.ServingModel.Serving.{ServingRefusal, no_room, not_served, too_many_turns, serve_from}
use Rattle.any_runs.specs.DdmTree.Machine.{MachineState}
use Rattle.serving_runs.specs.declared.refusal.ServedRefusal.{ServedRefusal}
use Rattle.serving_runs.specs.declared.refusal.ServedRefusal.TheVariants.{NoRoom, NotServed, TooManyTurns, NoMemory}

-- the turns that serve the operations, where the tree has room for the items; lines are counted from 1
unfoldable pub served_of : TreeValue → List Op → MachineValue → Result (List Turn) ServingRefusal
served_of t ops m = if sizes_have_room t (item_count m.items) then serve_from 1 0 ops m else Err no_room

-- why there are none; that memory is wanting is no reason here
abbrev pub Refuses : ServedRefusal → Result (List Turn) ServingRefusal → Type 0
Refuses NoRoom r = r ≡ Err no_room
Refuses (NotServed line) r = r ≡ Err (not_served line)
Refuses (TooManyTurns line) r = r ≡ Err (too_many_turns line)
Refuses NoMemory r = ⊥

-- the machine is that of an accepted tree and an image, before its first turn, and the operations are legal from there
pub record CanServe (t : TreeValue) (ops : List Op) (s : MachineState) : Type 0 where
  pub tree : IsTree t
  pub image : ImageValue
  pub built : start_of t image ≡ Ok s.machine
  pub turns : s.turns ≡ 0
  pub legal : Legal s.machine.code s.machine.items (flat_start_of t image) ops
  pub few : length ops ≤ 1048576

-- The run on the schedule of legal operations completes just these, in their order.
abbrev pub ServedRunsComplete : Type 0
ServedRunsComplete =
    (t : TreeValue) (i : ImageValue) (m : MachineValue) → IsTree t → start_of t i ≡ Ok m →
    (ops : List Op) (turns : List Turn) →
    Legal m.code m.items (flat_start_of t i) ops → served_of t ops m ≡ Ok turns →
    same_operations ops (run_of turns m).machine.ops ≡ true
