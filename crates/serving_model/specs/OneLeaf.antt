-- A tree that is at rest but for one leaf, which asks for an item or has just got it.
-- Letters: n is how many items there are, x the item, h the leaf, d a directory over the children ns, v a leaf, c the
-- child over the leaf.
-- To be believed with the laws: it is what they speak of.
use Rattle.std.specs.Prelude.{◌≡◌, ◌≢◌, ◌<◌, ℕ, true, nat_eq, nat_lt, List, [], length, Option, Some, None}
use Rattle.serving_model.specs.DdmTypes.declared.answers.TxKind.TheVariants.{EraseTx}
use Rattle.serving_model.specs.DdmTypes.declared.sizes.LeafState.{LeafState}
use Rattle.serving_model.specs.DdmTypes.declared.turns.Turn.{Turn}
use Rattle.bus_laws.specs.FlatModel.declared.Ask.{Ask}
use Rattle.bus_laws.specs.FlatModel.Hart.{ask_of}
use Rattle.bus_laws.specs.FlatModel.Flat.{FlatHart, no_flat_hart}
use Rattle.serving_model.specs.TreeModel.State.Values.{RequestValue, WayValue, LeafValue, DirValue, Node, Nodes}
use Rattle.serving_model.specs.TreeModel.State.Values.{leaf_node, dir_node, children, MachineValue}
use Rattle.serving_model.specs.TreeModel.State.Leaf.{way_at}
use Rattle.serving_model.specs.TreeModel.Turns.Children.{child_at}
use Rattle.serving_model.specs.TreeModel.Turns.Machine.{ask_leaf}
use Rattle.serving_model.specs.TreeRules.Bus.Rules.{items_of_machine}
use Rattle.serving_model.specs.Rest.{way_rests, leaf_has_room, dir_rests, dir_has_room}
use Rattle.serving_model.specs.Parts.{FlatView, MayEnd, LeafHas, Settled, BringsTo}
use Rattle.serving_model.specs.Walk.{child_over}

-- ---- harts

-- a leaf's hart and its reservation
abbrev pub leaf_hart : LeafValue → FlatHart
leaf_hart v = record { hart = v.hart; reserved = v.reservation }

-- the item that an instruction may store to
abbrev pub written_item : Ask → Option ℕ
written_item (Ask.NeedsExclusive x) = Some x
written_item (Ask.Conditional x) = Some x
written_item _ = None

-- those of the leaf of this number
abbrev pub hart_at : ℕ → MachineValue → Option FlatHart
hart_at h m = ask_leaf h (λ w v. leaf_hart v) no_flat_hart m

-- where its next instruction may store to an item, reservations on it may end
abbrev pub MayEndFor : FlatView → ℕ → MachineValue → Type 0
MayEndFor flat h m = (g : FlatHart) → hart_at h m ≡ Some g → (x : ℕ) → written_item (ask_of m.code m.items g.hart) ≡ Some x → MayEnd flat x

-- ---- a leaf with one item under way

-- the leaf has an entry of the item in this state and asks for this, all else of it is at rest, and it has the flat
-- memory
pub record LeafIs (n : ℕ) (flat : FlatView) (g : FlatHart) (x : ℕ) (state : LeafState)
    (asks : Option RequestValue) (v : LeafValue) : Type 0 where
  pub entry : WayValue
  pub here : way_at x v.ways ≡ Some entry
  pub in_state : entry.state ≡ state
  pub others : (y : ℕ) → y ≢ x → way_rests (way_at y v.ways) ≡ true
  pub buffer : v.buffer ≡ []
  pub slot : v.slot ≡ asks
  pub replies : v.replies ≡ []
  pub copies : LeafHas flat v.number v.hart v.reservation v.ways
  pub room : leaf_has_room n v.sizes ≡ true
  -- its hart is this one, with this reservation
  pub hart : v.hart ≡ g.hart
  pub reserved : v.reservation ≡ g.reserved

-- ---- the nodes over the leaf

-- the leaf is so, and all else is at rest
pub data Spine (n : ℕ) (flat : FlatView) (h : ℕ) (Q : LeafValue → Type 0) : Node → Type 0 where
  at_leaf : {v : LeafValue} → nat_eq v.number h ≡ true → Q v → Spine n flat h Q (leaf_node v)
  over :
      {d : DirValue} {ns : Nodes} → (c : ℕ) → child_over h ns ≡ Some c → c < length (children ns) →
      dir_rests d ≡ true → dir_has_room d.sizes ≡ true →
      ((j : ℕ) → j < length (children ns) → j ≢ c → Settled n flat (child_at j (children ns))) →
      Spine n flat h Q (child_at c (children ns)) → Spine n flat h Q (dir_node d ns)

-- the same of a whole tree; its top sends nothing up
pub record RootSpine (n : ℕ) (flat : FlatView) (h : ℕ) (Q : LeafValue → Type 0) (d : DirValue) (ns : Nodes) : Type 0 where
  pub child : ℕ
  pub is : child_over h ns ≡ Some child
  pub there : child < length (children ns)
  pub rests : dir_rests d ≡ true
  pub down : nat_lt 0 d.sizes.down_room ≡ true
  pub others : (j : ℕ) → j < length (children ns) → j ≢ child → Settled n flat (child_at j (children ns))
  pub spine : Spine n flat h Q (child_at child (children ns))

-- ---- what an entry becomes when its data has come, and what its leaf asks for then

abbrev pub got : LeafState → LeafState
got LeafState.Shared = LeafState.Shared
got LeafState.Exclusive = LeafState.Exclusive
got LeafState.Waiting = LeafState.Waiting
got LeafState.Reading = LeafState.Shared
got LeafState.ReadingWaiting = LeafState.Waiting

abbrev pub asks_then : ℕ → LeafState → Option RequestValue
asks_then x LeafState.Shared = None
asks_then x LeafState.Exclusive = None
asks_then x LeafState.Waiting = None
asks_then x LeafState.Reading = None
asks_then x LeafState.ReadingWaiting = Some (record { kind = EraseTx; item = x })

-- ---- served

-- these turns of a machine are all granted and complete no operation; then the leaf is so, and all else is at rest
pub record IsServed (m : MachineValue) (ts : List Turn) (flat : FlatView) (h : ℕ) (Q : LeafValue → Type 0) : Type 0 where
  pub top : DirValue
  pub kids : Nodes
  pub brings : BringsTo m ts (dir_node top kids)
  pub rests : RootSpine (items_of_machine m) flat h Q top kids
