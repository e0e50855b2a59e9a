-- Machines that are judged: after each turn of three runs, and changed by hand.
-- Letters: m is a machine, d a directory, ns are nodes.
use Rattle.std.specs.Prelude.{◌≡◌, Bool, true, [], ◌∷◌, ◌++◌, Some, None, is_none}
use Rattle.state_judging.specs.DdmTypes.Keys.{stamp_zero}
use Rattle.state_judging.specs.DdmTypes.declared.sizes.Hold.{Hold}
use Rattle.state_judging.specs.TreeModel.State.Directory.{with_hold}
use Rattle.state_judging.specs.TreeModel.State.Values.{LeafValue, DirValue, Node, Nodes, leaf_node, dir_node}
use Rattle.state_judging.specs.TreeModel.State.Values.{no_nodes, more_nodes, MachineValue}
use Rattle.state_judging.specs.TreeRules.Examples.{two_writers_turns, two_writers_start, two_writers_after}
use Rattle.state_judging.specs.TreeRules.Examples.{stale_load_all, stale_load_start, stale_load_after}
use Rattle.state_judging.specs.TreeRules.Examples.{last_copy_turns, last_copy_start, run_keeps}
use Rattle.state_reading.specs.declared.StateRefusal.TheVariants.{BrokenRule, BrokenStamp, BrokenKey}
use Rattle.state_judging.specs.Judged.{judged}

abbrev pub is_judged_well : MachineValue → Bool
is_judged_well m = is_none (judged m)

-- ---- changed by hand

-- the first child of the top, where it is a directory, or its leaf
abbrev pub first_with : (DirValue → DirValue) → (LeafValue → LeafValue) → Nodes → Nodes
first_with f g no_nodes = no_nodes
first_with f g (more_nodes (leaf_node v) ns) = more_nodes (leaf_node (g v)) ns
first_with f g (more_nodes (dir_node d ms) ns) = more_nodes (dir_node (f d) ms) ns

abbrev pub with_first : (DirValue → DirValue) → (LeafValue → LeafValue) → MachineValue → MachineValue
with_first f g m = record m { kids = first_with f g m.kids }

-- its bus took over a stamp that is still to come
abbrev pub with_early_stamp : DirValue → DirValue
with_early_stamp d = record d { epoch = record stamp_zero { s0 = 1 } }

-- a parking place is kept for nothing
abbrev pub with_place_kept : DirValue → DirValue
with_place_kept d = record d { reserved = 1 }

-- it says that it holds item 2
abbrev pub with_hold_of_2 : DirValue → DirValue
with_hold_of_2 d = with_hold 2 Hold.Shared d

-- it has lost all that stood in its ways
abbrev pub with_empty_ways : LeafValue → LeafValue
with_empty_ways v = record v { ways = None ∷ None ∷ [] }

abbrev pub same_leaf : LeafValue → LeafValue
same_leaf v = v

abbrev pub same_dir : DirValue → DirValue
same_dir d = d

-- ---- no items: two levels of buses with nothing to keep

abbrev pub with_no_items : DirValue → DirValue
with_no_items d = record d { items = [] }

abbrev pub leaf_of_none : LeafValue → LeafValue
leaf_of_none v = record v { ways = [] }

abbrev mutual
  pub node_of_none : Node → Node
  node_of_none (leaf_node v) = leaf_node (leaf_of_none v)
  node_of_none (dir_node d ns) = dir_node (with_no_items d) (nodes_of_none ns)

  pub nodes_of_none : Nodes → Nodes
  nodes_of_none no_nodes = no_nodes
  nodes_of_none (more_nodes n ns) = more_nodes (node_of_none n) (nodes_of_none ns)

abbrev pub without_items : MachineValue → MachineValue
without_items m = record m { items = record m.items { rows = [] }; top = with_no_items m.top; kids = nodes_of_none m.kids }

pub record Judgements : Type 0 where
  -- at the start and after each of the turns
  pub two_writers : run_keeps is_judged_well two_writers_turns two_writers_start ≡ true
  pub stale_load : run_keeps is_judged_well stale_load_all stale_load_start ≡ true
  pub last_copy : run_keeps is_judged_well last_copy_turns last_copy_start ≡ true
  -- leaf 0 had both items: the least is named
  pub emptied : judged (with_first same_dir with_empty_ways two_writers_start) ≡ Some (BrokenRule 0 0)
  pub place_kept : judged (with_first with_place_kept same_leaf stale_load_start) ≡ Some (BrokenRule 1 0)
  -- bus 0 has granted the read of item 2 of its first child, and waits for the other's answer: bus 1 is broken, and not bus 0
  pub held_before_data : judged (with_first with_hold_of_2 same_leaf (stale_load_after 12)) ≡ Some (BrokenRule 1 2)
  pub taken_early : judged (with_first with_early_stamp same_leaf stale_load_start) ≡ Some (BrokenStamp 1)
  -- the second operation has the key of the first one
  pub same_key : judged (record (two_writers_after 1) { ops = (two_writers_after 1).ops ++ (two_writers_after 1).ops }) ≡ Some (BrokenKey 1)
  -- without items too a place that is kept for nothing breaks the rules of a bus
  pub nothing_kept : judged (without_items stale_load_start) ≡ None
  pub kept_for_nothing : judged (with_first with_place_kept same_leaf (without_items stale_load_start)) ≡ Some (BrokenRule 1 0)
