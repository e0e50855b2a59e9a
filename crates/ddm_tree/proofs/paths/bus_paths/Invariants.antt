use Rattle.std.proofs.Common.{◌≡◌, ◌<◌, ℕ, List, length, map, Some, vec_items}
use Rattle.std.specs.Prelude.{slice_get}
use Rattle.ddm_tree.specs.TreeModel.State.Values.{dir_node, nodes}
use Rattle.ddm_tree.specs.TreeModel.Turns.Tree.{bus_of_number}
use Rattle.ddm_tree.specs.Ready.{Leads}
use Rattle.ddm_tree.proofs.paths.bus_paths.Given as goal

abbrev pub invariant-loop-bus : goal.invariant-loop-bus
invariant-loop-bus g l =
    (length l.paths.items ≡ l.bus) × ((k : ℕ) (path : List ℕ) → k < l.bus → Leads (bus_of_number k) path (dir_node (g.P.Parent.state l.parent) (nodes (map g.C.Agent.value l.children))) → slice_get (map vec_items l.paths.items) k ≡ Some path)
