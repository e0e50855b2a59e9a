-- The parts of a new machine are those of a machine.
use Rattle.std.proofs.Common.{◌≡◌, ◌<◌, ℕ, zero, suc, true, List, [], length, replicate, Some, refl, ap, arith}
use Rattle.std.specs.Prelude.{nat_eq, slice_get}
use Rattle.std.specs.List.{list_all}
use Rattle.ddm_tree.specs.DdmTypes.declared.sizes.TreeCounts.{TreeCounts}
use Rattle.ddm_tree.specs.DdmTypes.CodeMap.{CodeWord}
use Rattle.ddm_tree.specs.DdmTypes.ItemTable.{ItemTable}
use Rattle.ddm_tree.specs.TreeModel.State.Values.{DirValue, Node, root_of}
use Rattle.ddm_tree.specs.TreeModel.State.Shape.{are_below, buses_of, leaf_numbers_of, skeleton, leaves_numbered, traffic_counted}
use Rattle.ddm_tree.specs.TreeModel.Turns.Machine.{no_traffic}
use Rattle.ddm_tree.specs.TreeModel.Turns.Tree.{Name, leaf_of_number, bus_of_number}
use Rattle.ddm_tree.proofs.TreeModel.Tests.{and-second}
use Rattle.std.proofs.lemmas.List.{length-replicate}
use Rattle.ddm_tree.specs.Machine.{IsMachine, IsNew, listed_path, new_machine, traffic_within}
use Rattle.ddm_tree.specs.Ready.{Leads}
use Rattle.ddm_tree.proofs.Numbered.{leaf-numbered, bus-numbered}

no_traffic-within : (n : ℕ) → list_all (traffic_within 0) (replicate n no_traffic) ≡ true
no_traffic-within zero = refl
no_traffic-within (suc n) = no_traffic-within n

module _ (width : ℕ) (code : List CodeWord) (items : ItemTable) (top : DirValue) (kids : List Node) (counts : TreeCounts) where
  pub new-is_machine : (leaf_paths bus_paths : List (List ℕ)) → IsNew width (new_machine code items top kids counts) counts
      → ((k : ℕ) (path : List ℕ) → k < counts.leaves → Leads (leaf_of_number k) path (root_of (new_machine code items top kids counts)) → slice_get leaf_paths k ≡ Some path)
      → ((k : ℕ) (path : List ℕ) → k < counts.buses → Leads (bus_of_number k) path (root_of (new_machine code items top kids counts)) → slice_get bus_paths k ≡ Some path)
      → IsMachine width (new_machine code items top kids counts) 0 leaf_paths bus_paths
  new-is_machine leaf_paths bus_paths is leaves buses = record {
    shaped = is.shaped;
    rules = is.rules;
    rooms = is.rooms;
    words = is.words;
    counts = is.uncounted;
    granted = no_traffic-within counts.buses;
    paths = paths;
  }
    where
      paths : (name : Name) (path : List ℕ) → Leads name path (root_of (new_machine code items top kids counts)) → listed_path name leaf_paths bus_paths ≡ Some path
      paths (leaf_of_number k) path leads =
          let numbered : k < length (leaf_numbers_of (skeleton (root_of (new_machine code items top kids counts))) []) = leaf-numbered k (skeleton (root_of (new_machine code items top kids counts))) path (is.shaped.each leaves_numbered) leads in
          let total : length (leaf_numbers_of (skeleton (root_of (new_machine code items top kids counts))) []) ≡ counts.leaves = ap (λ c. c.leaves) is.numbers in
          leaves k path (omega (arith, numbered, total)) leads
      paths (bus_of_number k) path leads =
          let below : are_below (length (replicate counts.buses no_traffic)) (buses_of (skeleton (root_of (new_machine code items top kids counts))) []) ≡ true = and-second (nat_eq (length (buses_of (skeleton (root_of (new_machine code items top kids counts))) [])) (length (replicate counts.buses no_traffic))) _ (is.shaped.each traffic_counted) in
          let numbered : k < length (replicate counts.buses no_traffic) = bus-numbered k (length (replicate counts.buses no_traffic)) (skeleton (root_of (new_machine code items top kids counts))) path below leads in
          let total : length (replicate counts.buses no_traffic) ≡ counts.buses = length-replicate counts.buses no_traffic in
          buses k path (omega (arith, numbered, total)) leads
