-- The state of the machine as plain values. Source: the states of the Data Diffusion Machine (invalid, exclusive,
-- shared, reading, waiting, reading-and-waiting in attraction memories; answering and the notes of transactions under
-- way in directories).
-- To be believed: it is what the machine is.
use Rattle.std.specs.Prelude.{ℕ, Bool, false, List, [], ◌∷◌, Option}
use Rattle.tree_model.specs.DdmTypes.declared.keys.Stamp.{Stamp}
use Rattle.tree_model.specs.DdmTypes.declared.answers.TxKind.{TxKind}
use Rattle.tree_model.specs.DdmTypes.declared.sizes.Hold.{Hold}
use Rattle.tree_model.specs.DdmTypes.declared.sizes.Hold.TheVariants.{Invalid}
use Rattle.tree_model.specs.DdmTypes.declared.sizes.LeafState.{LeafState}
use Rattle.tree_model.specs.DdmTypes.declared.operations.Op.{Op}
use Rattle.tree_model.specs.DdmTypes.ItemTable.{ItemTable}
use Rattle.tree_model.specs.DdmTypes.CodeMap.{CodeWord}
use Rattle.flat_model.specs.Hart.{HartValue}
use Rattle.tree_model.specs.declared.Traffic.{Traffic}

-- a request for an item: to read it, or to erase all other copies of it
pub record RequestValue : Type 0 where
  pub kind : TxKind
  pub item : ℕ

-- an item with its words, as a reply or as a parked copy
pub record CopyValue : Type 0 where
  pub item : ℕ
  pub words : List ℕ

-- an entry of a down list; the words of one that carries none are 0
pub record DownValue : Type 0 where
  pub kind : TxKind
  pub item : ℕ
  pub words : List ℕ
  pub stamp : Stamp

-- ---- a leaf

-- an entry of the attraction memory, in a way of its item's set; the words of one that has none (R and B) are 0
pub record WayValue : Type 0 where
  pub way : ℕ
  pub state : LeafState
  pub words : List ℕ

-- an entry that was moved to the buffer
pub record BufferValue : Type 0 where
  pub item : ℕ
  pub state : LeafState
  pub words : List ℕ

-- what no turn changes of a leaf: its sets and their ways, the places of its buffer and replies, and the words of an item
pub record LeafSizes : Type 0 where
  pub sets : ℕ
  pub way_count : ℕ
  pub buffer_room : ℕ
  pub reply_room : ℕ
  pub width : ℕ

pub record LeafValue : Type 0 where
  pub number : ℕ
  pub sizes : LeafSizes
  pub hart : HartValue
  -- how many instructions the hart has completed
  pub done : ℕ
  -- for each item its entry in a way of its set
  pub ways : List (Option WayValue)
  -- in order of arrival
  pub buffer : List BufferValue
  -- a request that no bus has granted yet
  pub slot : Option RequestValue
  pub replies : List CopyValue
  -- the item that its hart has reserved
  pub reservation : Option ℕ

-- ---- a directory

-- What is under way for an item on the bus below: nothing; a read that a child answers, or that was sent up, by the child
-- whose request was granted first and the set of those that joined it (child c is in the set exactly where bit c is set);
-- or an erase of this child.
pub data Note : Type 0 where
  no_note : Note
  local : ℕ → ℕ → Note
  up_read : ℕ → ℕ → Note
  up_erase : ℕ → Note

-- what a directory keeps of an item
pub record DirItem : Type 0 where
  pub hold : Hold
  pub note : Note
  pub answering : Bool

abbrev pub absent_item : DirItem
absent_item = record { hold = Invalid; note = no_note; answering = false }

-- what no turn changes of a directory: the places of its lists, and the words of an item
pub record DirSizes : Type 0 where
  pub down_room : ℕ
  pub request_room : ℕ
  pub reply_room : ℕ
  pub parking_room : ℕ
  pub width : ℕ

-- A directory. Its lists: `down` has what the bus above told it, `requests` and `replies` what it sends to that bus.
pub record DirValue : Type 0 where
  -- the bus below it, and how many buses are above that one
  pub bus : ℕ
  pub level : ℕ
  pub sizes : DirSizes
  pub items : List DirItem
  pub down : List DownValue
  pub requests : List RequestValue
  pub replies : List CopyValue
  -- copies of which no child has room, in order of arrival, and the places kept for injects that are under way
  pub parked : List CopyValue
  pub reserved : ℕ
  -- the grants on the bus below, and the stamp of the last entry that it took from the down list
  pub count : ℕ
  pub epoch : Stamp

-- ---- the tree

-- a leaf, or a directory over its children; a data type can't hold a list of itself, so `Nodes` is that list
mutual
  pub data Node : Type 0 where
    leaf_node : LeafValue → Node
    dir_node : DirValue → Nodes → Node

  pub data Nodes : Type 0 where
    no_nodes : Nodes
    more_nodes : Node → Nodes → Nodes

abbrev pub nodes : List Node → Nodes
nodes [] = no_nodes
nodes (n ∷ ns) = more_nodes n (nodes ns)

abbrev pub children : Nodes → List Node
children no_nodes = []
children (more_nodes n ns) = n ∷ children ns

-- The whole machine. The top is a directory with no bus above: it holds every item Exclusive, answers nothing and has no
-- room for requests, replies and parked copies.
pub record MachineValue : Type 0 where
  pub code : List CodeWord
  pub items : ItemTable
  pub top : DirValue
  pub kids : Nodes
  -- the completed instructions, in order of completion
  pub ops : List Op
  -- for each bus
  pub traffic : List Traffic

abbrev pub root_of : MachineValue → Node
root_of m = dir_node m.top m.kids
