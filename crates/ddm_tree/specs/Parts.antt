-- A machine taken apart, into which a checkpoint's words are read: what it keeps meanwhile, and what becomes of it, section by section.
-- Letters: m and after are machines before and after a call, k is the number of the next word.
-- To be believed with the contracts: it is what the calls that read give.
use Rattle.std.specs.Prelude.{◌≡◌, ℕ, Bool, true, List, [], drop, length, map, slice_set, Some, Result, Ok, Err, if◌then◌else◌}
use Rattle.std.specs.List.{range_with_len}
use Rattle.ddm_tree.specs.DdmTypes.declared.operations.Op.{Op}
use Rattle.ddm_tree.specs.DdmTypes.ItemTable.{item_count}
use Rattle.ddm_tree.specs.TreeModel.declared.Traffic.{Traffic}
use Rattle.ddm_tree.specs.TreeModel.State.Values.{LeafValue, MachineValue, root_of}
use Rattle.ddm_tree.specs.TreeModel.State.Rooms.{all_within}
use Rattle.ddm_tree.specs.TreeModel.State.Shape.{depth_of, frame_of, skeleton, tree_counts}
use Rattle.ddm_tree.specs.TreeModel.Turns.Machine.{machine_leaves, with_root}
use Rattle.ddm_tree.specs.TreeModel.Turns.Tree.{Name}
use Rattle.ddm_tree.specs.StateReading.declared.StateRefusal.{StateRefusal}
use Rattle.ddm_tree.specs.StateReading.Reading.{Read, times}
use Rattle.ddm_tree.specs.StateReading.Parts.{read_hart, read_leaf, read_op, read_traffic}
use Rattle.ddm_tree.specs.StateReading.Machine.{BusRead, bus_dir, bus_traffic, read_buses, read_each, refilled}
use Rattle.state_judging.specs.Read.{CanRead}
use Rattle.ddm_tree.specs.declared.section.Section.{Section}
use Rattle.ddm_tree.specs.Machine.{listed_path}
use Rattle.ddm_tree.specs.Path.{node_at}
use Rattle.ddm_tree.specs.ReadBack.{IsPut, node_read, section_name}
use Rattle.ddm_tree.specs.Ready.{words_are, Leads}

-- its shape, each list within its room, items of this width, and the path to each leaf and to each bus
pub record IsParts (width : ℕ) (m : MachineValue) (leaf_paths bus_paths : List (List ℕ)) : Type 0 where
  pub readable : CanRead m
  pub rooms : all_within (item_count m.items) (root_of m) ≡ true
  pub words : words_are width (skeleton (root_of m)) ≡ true
  pub paths : (name : Name) (path : List ℕ) → Leads name path (root_of m) → listed_path name leaf_paths bus_paths ≡ Some path

-- a section was read into its node; the tree alone has changed
pub record SectionRead (section : Section) (words : List ℕ) (from : ℕ) (m after : MachineValue) (at : ℕ) : Type 0 where
  pub path : List ℕ
  pub leads : Leads (section_name section) path (root_of m)
  pub is_put : IsPut section path words from at (root_of m) (root_of after)
  pub same : after ≡ with_root (root_of after) m

-- its words are refused
pub record SectionRefused (section : Section) (words : List ℕ) (from : ℕ) (m : MachineValue) (e : StateRefusal) : Type 0 where
  pub path : List ℕ
  pub leads : Leads (section_name section) path (root_of m)
  pub read : node_read section (node_at path (root_of m)) from (drop from words) ≡ Err e

-- ---- all sections of a kind, each relative to the machine before them

-- a section of a leaf: that of its hart, or the rest
abbrev pub leaf_section : Bool → ℕ → Section
leaf_section harts leaf = if harts then Section.Hart leaf else Section.Leaf leaf

abbrev pub leaf_read : Bool → LeafValue → ℕ → List ℕ → Result (Read LeafValue) StateRefusal
leaf_read harts v k ws = if harts then read_hart v k ws else read_leaf (length v.ways) v k ws

-- the harts of all leaves were read, or the rest of them
pub record LeavesRead (harts : Bool) (words : List ℕ) (from : ℕ) (m after : MachineValue) (at : ℕ) : Type 0 where
  pub leaves : List LeafValue
  pub read :
      read_each (leaf_read harts) (machine_leaves m) from (drop from words)
      ≡ Ok (record { value = leaves; at = at; rest = drop at words })
  pub is : after ≡ with_root (refilled leaves [] (root_of m)) m
  pub frame : frame_of after ≡ frame_of m

-- one bus was read: its directory and its traffic
pub record BusIsRead (bus : ℕ) (words : List ℕ) (from : ℕ) (m after : MachineValue) (at : ℕ) : Type 0 where
  pub middle : MachineValue
  pub behind : ℕ
  pub dir : SectionRead (Section.Bus bus) words from m middle behind
  pub traffic : Traffic
  pub read : read_traffic behind (drop behind words) ≡ Ok (record { value = traffic; at = at; rest = drop at words })
  pub is : after ≡ record middle { traffic = slice_set middle.traffic bus traffic }

-- its words are refused, those of its directory or those of its traffic
pub data BusIsRefused (bus : ℕ) (words : List ℕ) (from : ℕ) (m : MachineValue) (e : StateRefusal) : Type 0 where
  dir_refused : SectionRefused (Section.Bus bus) words from m e → BusIsRefused bus words from m e
  traffic_refused : (middle : MachineValue) (behind : ℕ) → SectionRead (Section.Bus bus) words from m middle behind
      → read_traffic behind (drop behind words) ≡ Err e → BusIsRefused bus words from m e

-- all buses were read
pub record BusesAreRead (words : List ℕ) (from : ℕ) (m after : MachineValue) (at : ℕ) : Type 0 where
  pub buses : List BusRead
  pub read :
      read_buses (item_count m.items) m (range_with_len 0 (length m.traffic)) [] from (drop from words)
      ≡ Ok (record { value = buses; at = at; rest = drop at words })
  pub is : after ≡ record (with_root (refilled [] (map bus_dir buses) (root_of m)) m) { traffic = map bus_traffic buses }
  pub frame : frame_of after ≡ frame_of m

-- the operations were read, in place of those that were there
pub record OpsAreRead (retired : ℕ) (words : List ℕ) (from : ℕ) (m after : MachineValue) (at : ℕ) : Type 0 where
  pub ops : List Op
  pub read :
      times (read_op (depth_of m) (tree_counts m).leaves) retired [] from (drop from words)
      ≡ Ok (record { value = ops; at = at; rest = drop at words })
  pub is : after ≡ record m { ops = ops }
