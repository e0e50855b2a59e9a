-- Why a turn is busy: its reasons in the order in which they are judged, each a condition of the machine before it. The first one
-- that holds is the cause that the turn answers.
-- Letters: p is the parent of the bus that takes its turn, ns are its children, c and k child numbers, n is a child, v a leaf, d a
-- directory, x an item.
-- To be believed: it is what is claimed of every busy turn.
use Rattle.std.specs.Prelude.{◌≡◌, ℕ, ◌+◌, Bool, true, not, ◌||◌, nat_eq, List, [], ◌∷◌, ◌++◌, Option, Some, None}
use Rattle.std.specs.Prelude.{is_some, option_map, option_and_then, ⊤, if◌then◌else◌}
use Rattle.busy_laws.specs.DdmTypes.declared.answers.TxKind.{TxKind}
use Rattle.busy_laws.specs.DdmTypes.declared.answers.TxKind.TheVariants.{ReadTx, DataTx, EraseTx, ExclusiveTx, InjectTx, OutTx}
use Rattle.busy_laws.specs.DdmTypes.declared.answers.PendingWhy.{PendingWhy}
use Rattle.busy_laws.specs.DdmTypes.declared.answers.QueueName.{QueueName}
use Rattle.busy_laws.specs.DdmTypes.declared.answers.BusyCause.{BusyCause}
use Rattle.busy_laws.specs.DdmTypes.declared.answers.TurnAnswer.{TurnAnswer}
use Rattle.busy_laws.specs.DdmTypes.declared.turns.Turn.{Turn}
use Rattle.busy_laws.specs.DdmTypes.ItemTable.{ItemTable}
use Rattle.busy_laws.specs.DdmTypes.CodeMap.{CodeWord}
use Rattle.busy_laws.specs.FlatModel.Hart.{ask_of}
use Rattle.tree_model.specs.declared.BusTurn.{BusTurn}
use Rattle.tree_model.specs.State.Lists.{find_from, first_of, first_some, some_if}
use Rattle.tree_model.specs.State.States.{is_held, is_exclusive, is_shared}
use Rattle.tree_model.specs.State.Values.{RequestValue, DownValue, LeafValue, Note, no_note, local, up_read, up_erase}
use Rattle.tree_model.specs.State.Values.{DirValue, Node, leaf_node, dir_node, children, MachineValue, root_of}
use Rattle.tree_model.specs.State.Leaf.{free_way, waiting_item, leaf_replies_full, buffer_full}
use Rattle.tree_model.specs.State.Directory.{is_top, dir_hold, dir_note, is_answering, is_local, is_up_read}
use Rattle.tree_model.specs.State.Directory.{is_reader, is_parked, down_full, requests_full, replies_full}
use Rattle.tree_model.specs.State.Directory.{parking_full, pending}
use Rattle.tree_model.specs.State.Child.{reader_has_place, child_hold, child_request, child_reply, child_leaving}
use Rattle.tree_model.specs.State.Place.{Where, at_top}
use Rattle.tree_model.specs.Turns.Children.{child_at, holds_item, other_holds}
use Rattle.tree_model.specs.Turns.Leave.{other_copy, leave_taker}
use Rattle.tree_model.specs.Turns.HartTurn.{Need, no_need, a_copy, no_other_copy, time, need_of}
use Rattle.tree_model.specs.Turns.Tree.{read_in}
use Rattle.tree_model.specs.Turns.Machine.{named_by, bus_turn_of, turn_of}

-- ---- the item is pending

-- on the bus below this directory
abbrev pub pending_on : ℕ → DirValue → Option BusyCause
pending_on x d = option_map (λ why. BusyCause.ItemPending d.bus x why) (pending x d)

-- on the bus below a child, where it is a directory
abbrev pub pending_under : ℕ → Node → Option BusyCause
pending_under x (leaf_node v) = None
pending_under x (dir_node d ns) = pending_on x d

-- ---- a list is full

-- a list in which a turn needs a place, and that it has none left
pub record Needed : Type 0 where
  pub list : QueueName
  pub full : Bool

abbrev pub down_of : DirValue → Needed
down_of d = record { list = QueueName.Down d.bus; full = down_full d }

abbrev pub requests_of : DirValue → Needed
requests_of d = record { list = QueueName.Requests d.bus; full = requests_full d }

abbrev pub replies_of : DirValue → Needed
replies_of d = record { list = QueueName.Replies d.bus; full = replies_full d }

abbrev pub replies_of_leaf : LeafValue → Needed
replies_of_leaf v = record { list = QueueName.LeafReplies v.number; full = leaf_replies_full v }

-- the first of these lists that is full
abbrev pub first_full : List Needed → Option BusyCause
first_full [] = None
first_full (l ∷ ls) = if l.full then Some (BusyCause.QueueFull l.list) else first_full ls

-- A leaf puts a copy into its replies where it is told to answer a read.
abbrev pub leaf_told : TxKind → LeafValue → List Needed
leaf_told ReadTx v = replies_of_leaf v ∷ []
leaf_told DataTx v = []
leaf_told EraseTx v = []
leaf_told ExclusiveTx v = []
leaf_told InjectTx v = []
leaf_told OutTx v = []

-- What a directory is told goes into its down list, save that it loses an item that it doesn't hold.
abbrev pub dir_told : TxKind → ℕ → DirValue → List Needed
dir_told ReadTx x d = down_of d ∷ []
dir_told DataTx x d = down_of d ∷ []
dir_told EraseTx x d = if is_held (dir_hold x d) then down_of d ∷ [] else []
dir_told ExclusiveTx x d = down_of d ∷ []
dir_told InjectTx x d = down_of d ∷ []
dir_told OutTx x d = []

abbrev pub told : TxKind → ℕ → Node → List Needed
told kind x (leaf_node v) = leaf_told kind v
told kind x (dir_node d ns) = dir_told kind x d

-- each of the children that pass is told this, from child i on
abbrev pub told_each : (ℕ → Bool) → TxKind → ℕ → ℕ → List Node → List Needed
told_each passes kind x i [] = []
told_each passes kind x i (n ∷ ns) = (if passes i then told kind x n else []) ++ told_each passes kind x (i + 1) ns

module _ (p : DirValue) (ns : List Node) where
  -- ---- the lists in which a turn needs a place

  -- each reader of a note is told data
  abbrev pub readers_told : Note → ℕ → List Needed
  readers_told note x = told_each (is_reader note) DataTx x 0 ns

  -- a read is answered by child k, else by the parked copy, which goes into a list of the parent's
  abbrev pub answered_by : ℕ → Option ℕ → Bool → Needed → List Needed
  answered_by x (Some k) parked own = told ReadTx x (child_at k ns)
  answered_by x None parked own = if parked then own ∷ [] else []

  -- the read of child c: by the lowest other child that holds the item; where the parent doesn't hold it, it goes up
  abbrev pub read_needs : ℕ → ℕ → List Needed
  read_needs c x =
      if is_held (dir_hold x p) then answered_by x (find_from (other_holds c x) 0 ns) (is_parked x p) (down_of p)
      else requests_of p ∷ []

  -- the erase of child c: every other child loses the item, and exclusive goes down or the erase goes up
  abbrev pub erase_needs : ℕ → ℕ → List Needed
  erase_needs c x =
      told_each (λ i. not (nat_eq i c)) EraseTx x 0 ns
      ++ (if is_exclusive (dir_hold x p) then down_of p else requests_of p) ∷ []

  -- data that go up for the bus above
  abbrev pub answer_needs : ℕ → List Needed
  answer_needs x = if is_answering x p then replies_of p ∷ [] else []

  abbrev pub reply_needs : ℕ → Note → List Needed
  reply_needs x (local first joined) = readers_told (local first joined) x
  reply_needs x no_note = answer_needs x
  reply_needs x (up_read first joined) = answer_needs x
  reply_needs x (up_erase k) = answer_needs x

  abbrev pub data_needs : ℕ → Note → List Needed
  data_needs x (up_read first joined) = readers_told (up_read first joined) x
  data_needs x no_note = []
  data_needs x (local first joined) = []
  data_needs x (up_erase k) = []

  abbrev pub exclusive_needs : ℕ → Note → List Needed
  exclusive_needs x (up_erase k) = told ExclusiveTx x (child_at k ns)
  exclusive_needs x no_note = []
  exclusive_needs x (local first joined) = []
  exclusive_needs x (up_read first joined) = []

  -- an inject goes to the only reader, or as data to several; else it has its place
  abbrev pub inject_needs : ℕ → Note → List Needed
  inject_needs x (up_read first joined) =
      if nat_eq joined 0
      then (if reader_has_place x (child_at first ns) then told InjectTx x (child_at first ns) else [])
      else readers_told (up_read first joined) x
  inject_needs x no_note = []
  inject_needs x (local first joined) = []
  inject_needs x (up_erase k) = []

  -- the first entry of the down list, of this item and kind
  abbrev pub down_needs : ℕ → TxKind → List Needed
  down_needs x ReadTx = answered_by x (find_from (holds_item x) 0 ns) (is_parked x p) (replies_of p)
  down_needs x DataTx = data_needs x (dir_note x p)
  down_needs x EraseTx = told_each (λ i. true) EraseTx x 0 ns
  down_needs x ExclusiveTx = exclusive_needs x (dir_note x p)
  down_needs x InjectTx = inject_needs x (dir_note x p)
  down_needs x OutTx = []

  -- ---- a copy that leaves has no place

  -- parking has no place that is neither taken nor kept
  abbrev pub parking_reason : ℕ → Option BusyCause
  parking_reason x = if is_parked x p then None else some_if (parking_full p) (BusyCause.ParkingFull p.bus)

  -- an inject that no child takes is parked, and on the top's bus has no room
  abbrev pub inject_reason : ℕ → ℕ → Option BusyCause
  inject_reason c x = if is_some (leave_taker c x p ns) then None else (if is_top p then Some (BusyCause.NoRoom x) else parking_reason x)

  -- a Shared copy is dropped where there is another one, and the last one is parked where the parent holds the item Shared
  abbrev pub shared_reason : ℕ → ℕ → Option BusyCause
  shared_reason c x = if other_copy c x p ns then None else (if is_shared (dir_hold x p) then parking_reason x else inject_reason c x)

  abbrev pub place_reason : ℕ → ℕ → Option BusyCause
  place_reason c x = if is_shared (child_hold x (child_at c ns)) then shared_reason c x else inject_reason c x

  -- ---- the reason of a turn of the bus

  -- a read that joins one that is under way has none
  abbrev pub read_reason : ℕ → ℕ → Option BusyCause
  read_reason c x =
      if is_local (dir_note x p) || is_up_read (dir_note x p) then None
      else first_some (pending_on x p) (first_full (read_needs c x))

  abbrev pub request_reason : ℕ → ℕ → TxKind → Option BusyCause
  request_reason c x ReadTx = read_reason c x
  request_reason c x DataTx = None
  request_reason c x EraseTx = first_some (pending_on x p) (first_full (erase_needs c x))
  request_reason c x ExclusiveTx = None
  request_reason c x InjectTx = None
  request_reason c x OutTx = None

  -- of an entry that comes down, only a note Local makes the item pending
  abbrev pub down_reason : ℕ → TxKind → Note → Option BusyCause
  down_reason x kind (local first joined) = Some (BusyCause.ItemPending p.bus x (PendingWhy.Local first))
  down_reason x kind no_note = first_full (down_needs x kind)
  down_reason x kind (up_read first joined) = first_full (down_needs x kind)
  down_reason x kind (up_erase k) = first_full (down_needs x kind)

  -- the item that leaves is pending on this bus, else on the bus below the directory that it leaves
  abbrev pub leave_reason : ℕ → ℕ → Option BusyCause
  leave_reason c x = first_some (pending_on x p) (first_some (pending_under x (child_at c ns)) (place_reason c x))

  -- of the request, the reply or the leaving item of the child that it names, or of the first entry of the parent's down list
  abbrev pub bus_reason : BusTurn → Option BusyCause
  bus_reason BusTurn.Down = option_and_then (λ (e : DownValue). down_reason e.item e.kind (dir_note e.item p)) (first_of p.down)
  bus_reason (BusTurn.Request c) = option_and_then (λ (r : RequestValue). request_reason c r.item r.kind) (child_request (child_at c ns))
  bus_reason (BusTurn.Reply c) = option_and_then (λ r. first_full (reply_needs r.item (dir_note r.item p))) (child_reply (child_at c ns))
  bus_reason (BusTurn.Leave c choice) = option_and_then (leave_reason c) (child_leaving choice (child_at c ns))

-- ---- a hart's turn

-- its set has no free way for a copy that it needs, and its buffer no place for the item that would make way
abbrev pub fetch_reason : LeafValue → Need → Option BusyCause
fetch_reason v no_need = None
fetch_reason v (a_copy x state) =
    if is_some (free_way v.sizes x v.ways) then None else some_if (buffer_full v) (BusyCause.BufferFull v.number)
fetch_reason v (no_other_copy x words) = None
fetch_reason v (time x) = None

abbrev pub hart_reason : List CodeWord → ItemTable → LeafValue → Option BusyCause
hart_reason code items v =
    if is_some v.hart.halt || is_some (waiting_item v.ways v.buffer) then None
    else fetch_reason v (need_of (ask_of code items v.hart) v)

-- ---- a turn of the machine

abbrev pub reason_here : List CodeWord → ItemTable → Turn → Where → Node → Option BusyCause
reason_here code items t w (leaf_node v) = hart_reason code items v
reason_here code items t w (dir_node d ns) = bus_reason d (children ns) (bus_turn_of t)

-- at the leaf or the bus that it names
abbrev pub busy_reason : Turn → MachineValue → Option BusyCause
busy_reason t m = option_and_then (λ r. r) (read_in (named_by t) (reason_here m.code m.items t) at_top (root_of m))

abbrev pub busy_cause : TurnAnswer → Option BusyCause
busy_cause (TurnAnswer.Retired op) = None
busy_cause (TurnAnswer.Issued kind x) = None
busy_cause (TurnAnswer.Waiting x) = None
busy_cause (TurnAnswer.Halted cause) = None
busy_cause (TurnAnswer.Granted e) = None
busy_cause TurnAnswer.Empty = None
busy_cause (TurnAnswer.Busy cause) = Some cause

-- a turn is busy exactly where it has a reason, and answers the first one
abbrev pub BusyForItsReason : Type 0
BusyForItsReason = (t : Turn) (m : MachineValue) → busy_cause (turn_of t m).answer ≡ busy_reason t m

-- so it is of each of these turns, one after the other
abbrev pub EachBusyForItsReason : List Turn → MachineValue → Type 0
EachBusyForItsReason [] m = ⊤
EachBusyForItsReason (t ∷ ts) m = (busy_cause (turn_of t m).answer ≡ busy_reason t m) × EachBusyForItsReason ts (turn_of t m).machine

abbrev pub EveryRunBusyForItsReasons : Type 0
EveryRunBusyForItsReasons = (ts : List Turn) (m : MachineValue) → EachBusyForItsReason ts m
