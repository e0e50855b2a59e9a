-- The machine of a tree and an image before its first turn, and the nodes at each level of its buses.
-- Letters: t is a tree, i an image.
-- To be believed with the contracts: they speak of it.
use Rattle.std.specs.Prelude.{◌≡◌, ℕ, ◌*◌, ◌≤◌, List, None, drop, length, map}
use Rattle.run_engine.specs.DdmTypes.CodeMap.{CodeWord}
use Rattle.run_engine.specs.DdmTypes.ItemTable.{ItemTable}
use Rattle.run_engine.specs.TreeModel.State.Values.{Node, leaf_node}
use Rattle.run_engine.specs.TreeModel.Start.Sources.{TreeValue, ImageValue, width_of}
use Rattle.run_engine.specs.TreeModel.Start.Memory.{start_code, start_items}
use Rattle.run_engine.specs.TreeModel.Start.Nodes.{dir_sizes, under_levels}
use Rattle.run_engine.specs.TreeModel.Start.Machine.{flat_start_of, start_leaves, start_machine, start_refusal}
use Rattle.run_engine.specs.DdmTree.Machine.{MachineState}
use Rattle.run_engine.specs.AnyMachine.Kind.{Kind}
use Rattle.tree_rules.specs.Bus.Rules.{IsMachineOk}
use Rattle.tree_rules.specs.Order.Rules.{IsInOrder}

abbrev pub started : TreeValue → ImageValue → MachineState
started t i = record { machine = start_machine t i; spare = 0; turns = 0 }

-- it keeps the rules of every bus, and those of order from the flat machine of the same tree and image
unfoldable pub StartsInOrder : TreeValue → ImageValue → MachineState → Type 0
StartsInOrder t i s = IsMachineOk s.machine × IsInOrder (flat_start_of t i) s.machine

-- of which kind the machines of a tree are
abbrev pub kind_of_tree : TreeValue → Kind
kind_of_tree t = record { levels = length t.levels; ways = t.way_count; width = width_of t }

-- what the leaves of so many ways, and items of so many words, are filled from
pub record CanFill (ways width : ℕ) (t : TreeValue) (i : ImageValue) (items : ItemTable) : Type 0 where
  pub ways_are : t.way_count ≡ ways
  pub size : 4 * width ≡ t.item_bytes
  pub small : width ≤ 16
  pub items_are : items ≡ start_items t i
  pub accepted : start_refusal t i ≡ None

-- what a machine is made of, whatever its leaves' ways
pub record CanMake (width : ℕ) (t : TreeValue) (i : ImageValue) (code : List CodeWord) (items : ItemTable) : Type 0 where
  pub size : 4 * width ≡ t.item_bytes
  pub small : width ≤ 16
  pub code_is : code ≡ start_code i
  pub items_are : items ≡ start_items t i
  pub accepted : start_refusal t i ≡ None

-- and what a machine of leaves with so many ways is made of
pub record CanStart (ways width : ℕ) (t : TreeValue) (i : ImageValue) (code : List CodeWord) (items : ItemTable) : Type 0 where
  pub fill : CanFill ways width t i items
  pub code_is : code ≡ start_code i

-- the nodes at this level, of which the first is over the bus of this number: the leaves behind the last level
abbrev pub nodes_at : TreeValue → ImageValue → ℕ → ℕ → List Node
nodes_at t i level first =
    under_levels (dir_sizes t.sizes (width_of t)) level first (drop level t.levels)
    (map leaf_node (start_leaves t i))
