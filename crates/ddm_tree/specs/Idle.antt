-- Harts of which each turn, at whatever moment and with whatever victim, answers the same and changes nothing, as long as no bus tells
-- their leaf anything.
-- Letters: n is a node, v a leaf, i why a hart is idle, k a leaf's number, t a turn, a an answer, c a child, o the item that a grant may
-- have answered.
-- To be believed with the contracts: it is what a machine remembers of its leaves.
use Rattle.std.specs.Prelude.{◌≡◌, ◌≢◌, ◌⊎◌, ℕ, Bool, true, false, nat_eq, List, [], ◌∷◌, ◌++◌, Option, Some, None}
use Rattle.std.specs.Prelude.{length, slice_get, slice_set, if◌then◌else◌}
use Rattle.ddm_tree.specs.DdmTypes.declared.answers.BusyCause.{BusyCause}
use Rattle.ddm_tree.specs.DdmTypes.declared.answers.LogEntry.{LogEntry}
use Rattle.ddm_tree.specs.DdmTypes.declared.answers.TurnAnswer.{TurnAnswer}
use Rattle.ddm_tree.specs.DdmTypes.declared.answers.TxKind.{TxKind}
use Rattle.ddm_tree.specs.DdmTypes.declared.operations.HaltCause.{HaltCause}
use Rattle.ddm_tree.specs.DdmTypes.declared.keys.Key.{Key}
use Rattle.ddm_tree.specs.DdmTypes.declared.turns.Turn.{Turn}
use Rattle.ddm_tree.specs.DdmTypes.CodeMap.{CodeWord}
use Rattle.ddm_tree.specs.DdmTypes.ItemTable.{ItemTable}
use Rattle.ddm_tree.specs.TreeModel.State.Values.{LeafValue, Node, leaf_node, dir_node}
use Rattle.ddm_tree.specs.TreeModel.State.Leaf.{waiting_item}
use Rattle.ddm_tree.specs.TreeModel.Turns.HartTurn.{leaf_step}
use Rattle.ddm_tree.specs.TreeModel.Turns.Machine.{named_by}
use Rattle.ddm_tree.specs.TreeModel.Turns.Tree.{bus_of_number, leaf_of_number}
use Rattle.ddm_tree.specs.declared.idle.Idle.{Idle}
use Rattle.ddm_tree.specs.Path.{node_at}
use Rattle.ddm_tree.specs.Quiet.{IsNoneOf, touches_child}
use Rattle.ddm_tree.specs.Ready.{Leads}

-- what the turns of an idle hart answer
abbrev pub idle_answer : Idle → TurnAnswer
idle_answer (Idle.Waits x) = TurnAnswer.Waiting x
idle_answer (Idle.BufferFull leaf) = TurnAnswer.Busy (BusyCause.BufferFull leaf)
idle_answer (Idle.Halted cause) = TurnAnswer.Halted cause

-- why a hart is idle that answered so
abbrev pub idle_told_busy : BusyCause → Option Idle
idle_told_busy (BusyCause.ItemPending bus x why) = None
idle_told_busy (BusyCause.QueueFull list) = None
idle_told_busy (BusyCause.BufferFull leaf) = Some (Idle.BufferFull leaf)
idle_told_busy (BusyCause.ParkingFull bus) = None
idle_told_busy (BusyCause.NoRoom x) = None

abbrev pub idle_told : TurnAnswer → Option Idle
idle_told (TurnAnswer.Retired op) = None
idle_told (TurnAnswer.Issued kind x) = None
idle_told (TurnAnswer.Waiting x) = Some (Idle.Waits x)
idle_told (TurnAnswer.Halted cause) = None
idle_told (TurnAnswer.Granted entry) = None
idle_told TurnAnswer.Empty = None
idle_told (TurnAnswer.Busy cause) = idle_told_busy cause

-- why a hart is idle, as far as its leaf tells it, whatever the code: it has halted, or an entry waits for a transaction
abbrev pub rests_by : Option HaltCause → Option ℕ → Option Idle
rests_by (Some cause) waiting = Some (Idle.Halted cause)
rests_by None (Some x) = Some (Idle.Waits x)
rests_by None None = None

abbrev pub node_rests : Node → Option Idle
node_rests (leaf_node v) = rests_by v.hart.halt (waiting_item v.ways v.buffer)
node_rests (dir_node d ns) = None

-- a grant of this kind answers nobody that waits for the item
abbrev pub answers_none : TxKind → Bool
answers_none TxKind.ReadTx = true
answers_none TxKind.DataTx = false
answers_none TxKind.EraseTx = true
answers_none TxKind.ExclusiveTx = false
answers_none TxKind.InjectTx = false
answers_none TxKind.OutTx = false

-- the item that a grant may have answered
abbrev pub answered_by : LogEntry → Option ℕ
answered_by entry = if answers_none entry.kind then None else Some entry.item

-- What is known of a hart may be otherwise after a grant on its bus that may have answered this item: not of one that has halted or
-- waits for another item.
abbrev pub may_change : Option Idle → Option ℕ → Bool
may_change None o = false
may_change (Some (Idle.Waits y)) None = false
may_change (Some (Idle.Waits y)) (Some x) = nat_eq y x
may_change (Some (Idle.BufferFull leaf)) o = true
may_change (Some (Idle.Halted cause)) o = false

-- ---- what is remembered, a place for each leaf

abbrev pub idle_there : Option (Option Idle) → Option Idle
idle_there (Some known) = known
idle_there None = None

-- nothing is remembered
abbrev pub IsNothing : List (Option Idle) → Type 0
IsNothing idle = (k : ℕ) (i : Idle) → slice_get idle k ≡ Some (Some i) → ⊥

-- of no leaf it is remembered that its buffer has no place
abbrev pub IsNoneFull : List (Option Idle) → Type 0
IsNoneFull idle = (k leaf : ℕ) → slice_get idle k ≡ Some (Some (Idle.BufferFull leaf)) → ⊥

-- of the hart of a turn
abbrev pub idle_for : Turn → List (Option Idle) → Option Idle
idle_for (Turn.Hart hart victim) idle = idle_there (slice_get idle hart)
idle_for (Turn.Down bus) idle = None
idle_for (Turn.Request bus child) idle = None
idle_for (Turn.Reply bus child) idle = None
idle_for (Turn.Leave bus child choice) idle = None

abbrev pub with_idle : Turn → Idle → List (Option Idle) → List (Option Idle)
with_idle (Turn.Hart hart victim) i idle = slice_set idle hart (Some i)
with_idle (Turn.Down bus) i idle = idle
with_idle (Turn.Request bus child) i idle = idle
with_idle (Turn.Reply bus child) i idle = idle
with_idle (Turn.Leave bus child choice) i idle = idle

-- where the node is a leaf, each turn of its hart answers so and leaves it as it is
pub record IsIdle (code : List CodeWord) (items : ItemTable) (i : Idle) (n : Node) : Type 0 where
  pub each :
      (v : LeafValue) (now : Key) (victim : ℕ) → n ≡ leaf_node v →
      leaf_step code items now victim v ≡ record { answer = idle_answer i; leaf = v }

-- what is remembered of the leaves below a node is so there, and so where these paths lead below another one
pub record AreIdle (code : List CodeWord) (items : ItemTable) (idle : List (Option Idle)) (n after : Node) : Type 0 where
  pub each :
      (k : ℕ) (i : Idle) (path : List ℕ) → slice_get idle k ≡ Some (Some i) → Leads (leaf_of_number k) path n →
      IsIdle code items i (node_at path after)

-- what the leaf of this number tells below a node, where its path is listed
abbrev pub IsSeen : ℕ → List (List ℕ) → Node → Idle → Type 0
IsSeen k paths n i = (path : List ℕ) → slice_get paths k ≡ Some path → node_rests (node_at path n) ≡ Some i

-- what is remembered of a leaf is what it tells, or what was remembered
abbrev pub IsSeenOr : Type 0 → ℕ → List (List ℕ) → Node → List (Option Idle) → Idle → Type 0
IsSeenOr otherwise k paths n before i = IsSeen k paths n i ⊎ ((slice_get before k ≡ Some (Some i)) × otherwise)

-- after a grant it is what they tell for all leaves but these, where it may have changed
pub record AreSeen (o : Option ℕ) (Others : ℕ → Type 0) (paths : List (List ℕ)) (n : Node)
    (before after : List (Option Idle)) : Type 0 where
  pub each :
      (k : ℕ) (i : Idle) → slice_get after k ≡ Some (Some i) →
      IsSeenOr (Others k ⊎ (may_change (Some i) o ≡ false)) k paths n before i

-- none of these children of the bus at this path is the leaf of this number
abbrev pub IsNoChild : (ℕ → Type 0) → List ℕ → Node → ℕ → Type 0
IsNoChild Among p n k = (c : ℕ) → Among c → Leads (leaf_of_number k) (p ++ c ∷ []) n → ⊥

-- nothing that is known of the first so many of these leaves may have changed
pub record NoneChanges (o : Option ℕ) (count : ℕ) (leaves : List ℕ) (idle : List (Option Idle)) : Type 0 where
  pub each : (k : ℕ) (i : Idle) → slice_get idle k ≡ Some (Some i) → IsNoneOf k count leaves ⊎ (may_change (Some i) o ≡ false)

-- what it tells is remembered of one leaf
pub record IsLooked (k : ℕ) (paths : List (List ℕ)) (n : Node) (before after : List (Option Idle)) : Type 0 where
  pub own : (i : Idle) → slice_get after k ≡ Some (Some i) → IsSeen k paths n i
  pub others : (j : ℕ) (i : Idle) → j ≢ k → slice_get after j ≡ Some (Some i) → slice_get before j ≡ Some (Some i)

-- and for one leaf, where it may have changed
pub record IsLookedAfter (o : Option ℕ) (k : ℕ) (paths : List (List ℕ)) (n : Node) (before after : List (Option Idle)) : Type 0 where
  pub own : (i : Idle) → slice_get after k ≡ Some (Some i) → IsSeenOr (may_change (Some i) o ≡ false) k paths n before i
  pub others : (j : ℕ) (i : Idle) → j ≢ k → slice_get after j ≡ Some (Some i) → slice_get before j ≡ Some (Some i)

-- no leaf near the bus is this one
abbrev pub IsFarFrom : List (List ℕ) → ℕ → ℕ → Type 0
IsFarFrom bus_leaves bus k = (leaves : List ℕ) → slice_get bus_leaves bus ≡ Some leaves → IsNoneOf k (length leaves) leaves

-- no child of the bus that the turn touched is this leaf
abbrev pub IsLeftOut : TurnAnswer → List (List ℕ) → Node → ℕ → ℕ → Type 0
IsLeftOut a bus_paths n bus k = (p : List ℕ) → slice_get bus_paths bus ≡ Some p → IsNoChild (λ c. touches_child c a ≡ true) p n k

-- nothing was granted on a bus near the leaf that may have changed what is remembered of it
abbrev pub IsUntouched : Turn → TurnAnswer → List (List ℕ) → List (List ℕ) → Node → ℕ → Idle → Type 0
IsUntouched t a bus_leaves bus_paths n k i = (entry : LogEntry) (bus : ℕ)
    → a ≡ TurnAnswer.Granted entry → named_by t ≡ bus_of_number bus
    → IsFarFrom bus_leaves bus k ⊎ (IsLeftOut a bus_paths n bus k ⊎ (may_change (Some i) (answered_by entry) ≡ false))

-- what is remembered of a leaf after a turn: what the turn answered, what the leaf tells, or what was remembered and is untouched
pub data IsKnown (t : Turn) (a : TurnAnswer) (bus_leaves bus_paths leaf_paths : List (List ℕ)) (n : Node)
    (before : List (Option Idle)) (k : ℕ) (i : Idle) : Type 0 where
  is_told : named_by t ≡ leaf_of_number k → idle_told a ≡ Some i → IsKnown t a bus_leaves bus_paths leaf_paths n before k i
  is_seen : IsSeen k leaf_paths n i → IsKnown t a bus_leaves bus_paths leaf_paths n before k i
  still_known :
      slice_get before k ≡ Some (Some i) → IsUntouched t a bus_leaves bus_paths n k i →
      IsKnown t a bus_leaves bus_paths leaf_paths n before k i

pub record AreNoted (t : Turn) (a : TurnAnswer) (bus_leaves bus_paths leaf_paths : List (List ℕ)) (n : Node)
    (before after : List (Option Idle)) : Type 0 where
  pub each : (k : ℕ) (i : Idle) → slice_get after k ≡ Some (Some i) → IsKnown t a bus_leaves bus_paths leaf_paths n before k i
