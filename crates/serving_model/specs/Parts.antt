-- Runs of turns of buses within a part of the tree, each of them granted; and a part at rest, whose leaves have the words
-- and reservations of a flat memory.
-- Letters: w is where the part is, n a part, d a directory over the children ns, v a leaf, c what child i becomes, g a
-- grant.
-- To be believed with the laws: it is what they speak of.
use Rattle.std.specs.Prelude.{◌≡◌, ◌<◌, ℕ, Bool, true, false, List, [], ◌∷◌, ◌++◌, length, Option, Some, is_some, slice_set, ⊤}
use Rattle.std.specs.List.{list_all}
use Rattle.serving_model.specs.DdmTypes.declared.answers.TurnAnswer.{TurnAnswer}
use Rattle.serving_model.specs.DdmTypes.declared.turns.Turn.{Turn}
use Rattle.bus_laws.specs.FlatModel.Hart.{HartValue}
use Rattle.bus_laws.specs.FlatModel.Flat.{has_reserved}
use Rattle.serving_model.specs.TreeModel.State.Values.{WayValue, DirValue, Node, Nodes, leaf_node, dir_node, no_nodes}
use Rattle.serving_model.specs.TreeModel.State.Values.{more_nodes, nodes, MachineValue, root_of}
use Rattle.serving_model.specs.TreeModel.State.States.{is_reading}
use Rattle.serving_model.specs.TreeModel.State.Leaf.{way_at, unreserved}
use Rattle.serving_model.specs.TreeModel.State.Place.{Where, at_child, stamp_above, where_path, spot_in}
use Rattle.serving_model.specs.TreeModel.State.Shape.{skeleton}
use Rattle.serving_model.specs.TreeModel.Turns.Grant.{Grant, granted}
use Rattle.serving_model.specs.TreeModel.Turns.Children.{child_at}
use Rattle.serving_model.specs.TreeModel.Turns.Bus.{bus_judged}
use Rattle.serving_model.specs.TreeModel.Turns.Tree.{bus_of_number}
use Rattle.serving_model.specs.TreeModel.Turns.Machine.{named_by, bus_turn_of, run_of}
use Rattle.serving_model.specs.TreeRules.Bus.Rules.{IsTreeOk}
use Rattle.serving_model.specs.Rest.{tree_rests, tree_has_room}

-- by these turns the first part becomes the second one
pub data Runs : Where → Node → List Turn → Node → Type 0 where
  stays : {w : Where} {n : Node} → Runs w n [] n
  -- a turn of the part's own bus is granted, and then others
  turned :
      {w : Where} {d : DirValue} {t : Turn} {ts : List Turn} {m : Node} → (ns : List Node) (g : Grant) →
      named_by t ≡ bus_of_number d.bus → bus_judged (stamp_above w) d ns (bus_turn_of t) ≡ granted g
      → Runs w (dir_node g.parent (nodes g.kids)) ts m → Runs w (dir_node d (nodes ns)) (t ∷ ts) m
  -- turns within one child, and then others
  below :
      {w : Where} {d : DirValue} {m : Node} {us : List Turn} →
      (ns : List Node) (i : ℕ) (ts : List Turn) (c : Node) → i < length ns →
      Runs (at_child (spot_in (where_path w) d i)) (child_at i ns) ts c
      → Runs w (dir_node d (nodes (slice_set ns i c))) us m → Runs w (dir_node d (nodes ns)) (ts ++ us) m

-- a turn was granted
abbrev pub is_granted : TurnAnswer → Bool
is_granted (TurnAnswer.Granted e) = true
is_granted _ = false

-- these turns of a machine are all granted, bring its tree to this one, and complete no operation
pub record BringsTo (m : MachineValue) (ts : List Turn) (n : Node) : Type 0 where
  pub root : root_of (run_of ts m).machine ≡ n
  pub granted : list_all is_granted (run_of ts m).answers ≡ true
  pub operations : (run_of ts m).machine.ops ≡ m.ops

-- a flat memory as the leaves have it: the words of each item, and of the leaf of each number the hart, and what it may
-- have reserved
pub record FlatView : Type 0 where
  pub words : ℕ → List ℕ
  pub hart : ℕ → HartValue
  pub may_reserve : ℕ → Option ℕ → Bool

-- where a leaf may have the item reserved, it may also have nothing reserved
abbrev pub MayEnd : FlatView → ℕ → Type 0
MayEnd flat x = (h : ℕ) (reserved : Option ℕ) → flat.may_reserve h reserved ≡ true → flat.may_reserve h (unreserved x reserved) ≡ true

-- each entry that has words has those of its item; what the leaf has reserved it may, and has an entry of it
pub record LeafHas (flat : FlatView) (number : ℕ) (hart : HartValue) (reserved : Option ℕ) (ways : List (Option WayValue)) : Type 0 where
  pub each : (y : ℕ) (e : WayValue) → way_at y ways ≡ Some e → is_reading e.state ≡ false → e.words ≡ flat.words y
  pub same_hart : hart ≡ flat.hart number
  pub allowed : flat.may_reserve number reserved ≡ true
  pub here : (y : ℕ) → has_reserved reserved y ≡ true → is_some (way_at y ways) ≡ true

abbrev mutual
  pub Have : FlatView → Node → Type 0
  Have flat (leaf_node v) = LeafHas flat v.number v.hart v.reservation v.ways
  Have flat (dir_node d ns) = AllHave flat ns

  pub AllHave : FlatView → Nodes → Type 0
  AllHave flat no_nodes = ⊤
  AllHave flat (more_nodes n ns) = Have flat n × AllHave flat ns

-- at rest, with room for n items, and with this flat memory
pub record Settled (n : ℕ) (flat : FlatView) (m : Node) : Type 0 where
  pub rests : tree_rests m ≡ true
  pub room : tree_has_room n (skeleton m) ≡ true
  pub copies : Have flat m

-- and it keeps the rules
pub record Calm (n : ℕ) (flat : FlatView) (m : Node) : Type 0 where
  pub settled : Settled n flat m
  pub rules : IsTreeOk n m
