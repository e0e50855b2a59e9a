-- Laws of every turn, in the words of the contracts of src/laws.rt: no premise says that a machine is well-formed or reached.
-- To be believed with the laws: it is what they speak of.
use Rattle.std.specs.Prelude.{◌≡◌, ℕ, true, List, map}
use Rattle.tree_model.specs.DdmTypes.declared.answers.TurnAnswer.{TurnAnswer}
use Rattle.tree_model.specs.DdmTypes.declared.turns.Turn.{Turn}
use Rattle.tree_model.specs.DdmTypes.declared.keys.Stamp.{Stamp}
use Rattle.flat_model.specs.Hart.{HartValue}
use Rattle.tree_model.specs.State.Values.{LeafSizes, DirSizes, LeafValue, DirValue, Node, Nodes, leaf_node, dir_node, MachineValue, root_of}
use Rattle.tree_model.specs.State.Place.{Where, at_top}
use Rattle.tree_model.specs.State.Rooms.{all_within}
use Rattle.tree_model.specs.Turns.Tree.{Name, is_named, ChangedAt}
use Rattle.tree_model.specs.Turns.Grant.{Outcome}
use Rattle.tree_model.specs.Turns.Machine.{named_by, answer_here, node_after, turn_of}

-- this node has the name; this is what is read of it where it stands, and the other node is what it becomes
pub record ReadAndChanged {A : Type 0} (name : Name) (read : Where → Node → A) (change : Where → Node → Node)
    (a : A) (w : Where) (n m : Node) : Type 0 where
  pub named : is_named name n ≡ true
  pub reads : read w n ≡ a
  pub becomes : m ≡ change w n

-- ---- what a turn of a bus keeps

-- what no turn of its bus changes of a child: of a leaf its number, its sizes, its hart and how many instructions completed;
-- of a directory its bus, its level, its sizes, the time of its bus and all below it
pub data Kept : Type 0 where
  leaf_kept : ℕ → LeafSizes → HartValue → ℕ → Kept
  dir_kept : ℕ → ℕ → DirSizes → ℕ → Stamp → Nodes → Kept

abbrev pub kept_of : Node → Kept
kept_of (leaf_node v) = leaf_kept v.number v.sizes v.hart v.done
kept_of (dir_node d ns) = dir_kept d.bus d.level d.sizes d.count d.epoch ns

-- after a turn of a bus its parent has the same bus, level and sizes, and of each child is kept what no turn of its bus changes
pub record KeepsParts (p : DirValue) (ns : List Node) (o : Outcome) : Type 0 where
  pub bus : o.parent.bus ≡ p.bus
  pub level : o.parent.level ≡ p.level
  pub sizes : o.parent.sizes ≡ p.sizes
  pub kids : map kept_of o.kids ≡ map kept_of ns

-- a leaf's number and sizes stay in its hart's turn
pub record KeepsLeaf (v w : LeafValue) : Type 0 where
  pub number : w.number ≡ v.number
  pub sizes : w.sizes ≡ v.sizes

-- ---- a turn of the machine

-- the node that a turn names: this is its answer, and the other node is what it becomes
abbrev pub TurnsHere : Turn → MachineValue → TurnAnswer → Where → Node → Node → Type 0
TurnsHere t m a = ReadAndChanged (named_by t) (answer_here m.code m.items t) (node_after m.code m.items t) a

-- a turn changes one node of the tree, which answers
abbrev pub ChangesOneNode : Turn → MachineValue → Type 0
ChangesOneNode t m =
    (path : List ℕ)
    × ChangedAt (TurnsHere t m (turn_of t m).answer) at_top path (root_of m) (root_of (turn_of t m).machine)

-- a machine without the node that the turn names stays as it is
abbrev pub ChangesNothing : Turn → MachineValue → Type 0
ChangesNothing t m = turn_of t m ≡ record { answer = TurnAnswer.Empty; machine = m }

-- each list within its room, and a place for each of n items
pub record IsWithin (n : ℕ) (m : MachineValue) : Type 0 where
  pub rooms : all_within n (root_of m) ≡ true
