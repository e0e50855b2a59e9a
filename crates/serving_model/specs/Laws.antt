-- What holds of walks, a part of the tree at a time.
-- Letters: n is how many items there are, x the item, m a part of the tree and w where it is, s a stamp.
-- To be believed: it is what is claimed of them.
use Rattle.std.specs.Prelude.{◌≡◌, ◌<◌, ◌≤◌, ◌+◌, ◌*◌, ℕ, true, List, [], ◌∷◌, length, map, None, Some, Ok}
use Rattle.std.specs.List.{list_all}
use Rattle.serving_model.specs.DdmTypes.declared.answers.TurnAnswer.{TurnAnswer}
use Rattle.serving_model.specs.DdmTypes.declared.answers.TxKind.{TxKind}
use Rattle.serving_model.specs.DdmTypes.declared.answers.TxKind.TheVariants.{ReadTx, EraseTx}
use Rattle.serving_model.specs.DdmTypes.declared.keys.Key.{Key}
use Rattle.serving_model.specs.DdmTypes.declared.keys.Stamp.{Stamp}
use Rattle.serving_model.specs.DdmTypes.declared.operations.Op.{Op}
use Rattle.serving_model.specs.DdmTypes.declared.sizes.LeafState.{LeafState}
use Rattle.serving_model.specs.DdmTypes.declared.turns.Turn.{Turn}
use Rattle.bus_laws.specs.FlatModel.Flat.{Change, FlatHart, FlatMachine, flat_hart, item_words, with_change, hart_step}
use Rattle.serving_model.specs.TreeModel.State.Values.{LeafValue, Node, leaf_node, dir_node, MachineValue, root_of}
use Rattle.serving_model.specs.TreeModel.State.Child.{child_holds, child_replies, child_answer, child_reply_taken, child_lose}
use Rattle.serving_model.specs.TreeModel.State.Place.{Where, at_top}
use Rattle.serving_model.specs.TreeModel.State.Shape.{IsShaped, tree_counts}
use Rattle.serving_model.specs.TreeModel.State.States.{is_reading, may_leave}
use Rattle.serving_model.specs.TreeRules.Bus.Rules.{IsMachineOk, items_of_machine}
use Rattle.serving_model.specs.TreeModel.Turns.Machine.{turn_of, run_of, machine_leaves}
use Rattle.bus_laws.specs.TreeModel.Laws.{Kept, kept_of}
use Rattle.serving_model.specs.Rest.{tree_rests, is_at_rest, has_room}
use Rattle.serving_model.specs.Serving.{walks_of, turns_to_complete, completes_op}
use Rattle.serving_model.specs.Parts.{Runs, is_granted, FlatView, MayEnd, AllHave, BringsTo, Settled, Calm}
use Rattle.serving_model.specs.OneLeaf.{hart_at, MayEndFor, LeafIs, RootSpine, got, asks_then, IsServed}
use Rattle.serving_model.specs.Shows.{Shows}
use Rattle.serving_model.specs.Walk.{give_turns, lose_turns, read_turns, erase_turns}

-- these turns of a part are granted, it then has one reply, with the item's words, and when that is taken it is at rest
pub record Gives (n : ℕ) (flat : FlatView) (w : Where) (x : ℕ) (m : Node) (ts : List Turn) : Type 0 where
  pub after : Node
  pub run : Runs w m ts after
  pub reply : child_replies after ≡ record { item = x; words = flat.words x } ∷ []
  pub settled : Settled n flat (child_reply_taken after)

-- A part at rest that keeps the rules, and holds the item, gives it when it is told to answer.
abbrev pub PartsGive : Type 0
PartsGive =
    (n : ℕ) (flat : FlatView) (x : ℕ) → x < n → (m : Node) (w : Where) (s : Stamp) → Calm n flat m →
    child_holds x m ≡ true → Gives n flat w x (child_answer x s m) (give_turns x m)

-- these turns of a part are granted, and it is at rest
pub record Loses (n : ℕ) (flat : FlatView) (w : Where) (m : Node) (ts : List Turn) : Type 0 where
  pub after : Node
  pub run : Runs w m ts after
  pub settled : Settled n flat after

-- A part at rest that keeps the rules is at rest again after it was told to lose an item. Reservations on the item may
-- end.
abbrev pub PartsLose : Type 0
PartsLose =
    (n : ℕ) (flat : FlatView) (x : ℕ) → x < n → (m : Node) (w : Where) (s : Stamp) → MayEnd flat x → Calm n flat m →
    Loses n flat w (child_lose x s m) (lose_turns x m)

-- What is a run within the whole tree of a machine is one of the machine.
abbrev pub RunsAreTheMachines : Type 0
RunsAreTheMachines = (m : MachineValue) (ts : List Turn) (n : Node) → IsShaped m → Runs at_top (root_of m) ts n → BringsTo m ts n

-- Where all is at rest but for a leaf that asks to read an item, the walk serves it: its turns are granted, and the
-- leaf has the item, Shared, or waiting to write it, with the words that all copies have. No reservation ends.
abbrev pub ReadsAreServed : Type 0
ReadsAreServed =
    (m : MachineValue) (flat : FlatView) (g : FlatHart) (h x : ℕ) (state : LeafState) → x < items_of_machine m →
    is_reading state ≡ true → IsShaped m → IsMachineOk m
    → RootSpine (items_of_machine m) flat h
    (LeafIs (items_of_machine m) flat g x state (Some (record { kind = ReadTx; item = x }))) m.top m.kids
    → IsServed m (read_turns h x (root_of m)) flat h (LeafIs (items_of_machine m) flat g x (got state) (asks_then x state))

-- Where all is at rest but for a leaf that asks to erase all other copies of an item, the walk serves it, and the leaf
-- has the item Exclusive. Reservations on the item may end.
abbrev pub ErasesAreServed : Type 0
ErasesAreServed =
    (m : MachineValue) (flat : FlatView) (g : FlatHart) (h x : ℕ) → x < items_of_machine m → MayEnd flat x →
    IsShaped m → IsMachineOk m
    → RootSpine (items_of_machine m) flat h
    (LeafIs (items_of_machine m) flat g x LeafState.Waiting (Some (record { kind = EraseTx; item = x })))
    m.top m.kids
    → IsServed m (erase_turns h x (root_of m)) flat h (LeafIs (items_of_machine m) flat g x LeafState.Exclusive None)

-- these turns of a machine are all granted and complete no operation; then the leaf has the item, Shared or Exclusive,
-- all is at rest, and all copies have these words and all leaves these reservations
pub record Comes (m : MachineValue) (ts : List Turn) (flat : FlatView) (h x : ℕ) : Type 0 where
  pub g : FlatHart
  pub state : LeafState
  pub usable : may_leave state ≡ true
  pub served : IsServed m ts flat h (LeafIs (items_of_machine m) flat g x state None)
  pub rests : tree_rests (dir_node served.top served.kids) ≡ true
  pub copies : AllHave flat served.kids

-- Where a hart's turn in a machine at rest, with room, issues a request for an item, the walks bring it, and the
-- machine is at rest again with the same words. Reservations may end on the item alone, where the instruction stores to
-- it.
abbrev pub WalksBringTheItem : Type 0
WalksBringTheItem =
    (m : MachineValue) (flat : FlatView) (h victim : ℕ) (kind : TxKind) (x : ℕ) → IsShaped m → IsMachineOk m →
    is_at_rest m ≡ true → has_room m ≡ true → AllHave flat m.kids → MayEndFor flat h m
    → (turn_of (Turn.Hart h victim) m).answer ≡ TurnAnswer.Issued kind x →
    Comes (turn_of (Turn.Hart h victim) m).machine (walks_of h (turn_of (Turn.Hart h victim) m).machine)
    flat h x

-- the turn completes an instruction of this hart: it is the hart's step on a flat memory of these words
pub record Completes (m : MachineValue) (t : Turn) (g : FlatHart) (words : ℕ → List ℕ) (h : ℕ) : Type 0 where
  pub change : Change
  pub step : hart_step m.code m.items g words true ≡ Ok change
  pub key : Key
  pub answer : (turn_of t m).answer ≡ TurnAnswer.Retired (record { key = key; hart = h; pc = g.hart.pc; effect = change.effect })

-- And then the hart's next turn completes the instruction, as a flat memory of the same words has it. An SC for which
-- the item was asked stores.
abbrev pub RequestsComplete : Type 0
RequestsComplete =
    (m : MachineValue) (flat : FlatView) (h victim : ℕ) (kind : TxKind) (x : ℕ) → IsShaped m → IsMachineOk m →
    is_at_rest m ≡ true → has_room m ≡ true → AllHave flat m.kids → MayEndFor flat h m
    → (turn_of (Turn.Hart h victim) m).answer ≡ TurnAnswer.Issued kind x → (g : FlatHart) → hart_at h m ≡ Some g → (later : ℕ)
    → Completes
    (run_of (walks_of h (turn_of (Turn.Hart h victim) m).machine) (turn_of (Turn.Hart h victim) m).machine).machine
    (Turn.Hart h later) g flat.words h

-- In a machine at rest, with room, the turns complete the hart's next instruction: the operation of its step on a flat
-- memory of the same words, where an SC that has its reservation stores.
abbrev pub InstructionsAreServed : Type 0
InstructionsAreServed =
    (m : MachineValue) (flat : FlatView) (h : ℕ) (g : FlatHart) (change : Change) → IsShaped m → IsMachineOk m →
    is_at_rest m ≡ true → has_room m ≡ true → AllHave flat m.kids → MayEndFor flat h m
    → hart_at h m ≡ Some g → hart_step m.code m.items g flat.words true ≡ Ok change → (op : Op) → op.hart ≡ h →
    op.pc ≡ g.hart.pc → op.effect ≡ change.effect
    → completes_op op (run_of (turns_to_complete h m) m).answers ≡ true

-- And then the machine is at rest again, and shows the flat machine after the step.
abbrev pub StepsAreShown : Type 0
StepsAreShown =
    (m : MachineValue) (f : FlatMachine) (h : ℕ) (g : FlatHart) (change : Change) → Shows m f →
    hart_at h m ≡ Some g → hart_step m.code m.items (flat_hart f h) (item_words f) true ≡ Ok change
    → Shows (run_of (turns_to_complete h m) m).machine (with_change f h change)

-- Whatever the machine, an instruction takes at most four turns for each bus, and two of its hart.
abbrev pub WalksAreShort : Type 0
WalksAreShort = (h : ℕ) (m : MachineValue) → length (turns_to_complete h m) ≤ 4 * (tree_counts m).buses + 2

-- what a leaf is and what its hart is
abbrev pub leaf_kept_of : LeafValue → Kept
leaf_kept_of v = kept_of (leaf_node v)

-- Turns that are all granted change no hart, and complete nothing.
abbrev pub GrantsKeepHarts : Type 0
GrantsKeepHarts =
    (ts : List Turn) (m : MachineValue) → list_all is_granted (run_of ts m).answers ≡ true →
    map leaf_kept_of (machine_leaves (run_of ts m).machine) ≡ map leaf_kept_of (machine_leaves m)
