-- What a run has in common with the flat machine, for every tree: the witness, which is the operations in the order of their
-- keys, is one run of it, and all that is printed is that run's.
-- To be believed: it is what is claimed of every run.
use Rattle.std.specs.Prelude.{◌≡◌, ℕ, ◌<◌, Bool, true, false, not, ◌||◌, nat_eq, List, [], ◌∷◌, ◌++◌, ◌+◌, length}
use Rattle.std.specs.Prelude.{filter, take, Option, Some, None, IfSome, IsTrue, Err, ⊤}
use Rattle.std.specs.List.{AllByRecursion}
use Rattle.tree_rules.specs.DdmTypes.declared.answers.TurnAnswer.{TurnAnswer}
use Rattle.tree_rules.specs.DdmTypes.declared.answers.PendingWhy.{PendingWhy}
use Rattle.tree_rules.specs.DdmTypes.declared.answers.QueueName.{QueueName}
use Rattle.tree_rules.specs.DdmTypes.declared.answers.BusyCause.{BusyCause}
use Rattle.tree_rules.specs.DdmTypes.declared.turns.Turn.{Turn}
use Rattle.tree_rules.specs.DdmTypes.declared.operations.Op.{Op}
use Rattle.tree_rules.specs.DdmTypes.ItemTable.{item_count}
use Rattle.tree_rules.specs.FlatModel.Flat.{FlatMachine, flat_hart, item_words, flat_step}
use Rattle.tree_rules.specs.FlatModel.Legal.{Legal, is_of}
use Rattle.tree_model.specs.State.Lists.{all_from}
use Rattle.tree_model.specs.State.Values.{LeafValue, Note, local, up_read, up_erase, DirValue, MachineValue}
use Rattle.tree_model.specs.State.Directory.{dir_note, is_answering, in_down}
use Rattle.tree_model.specs.State.Child.{child_room}
use Rattle.tree_model.specs.Turns.Machine.{turn_of, run_of, ask_leaf, ask_bus, machine_leaves}
use Rattle.tree_model.specs.Turns.Found.{FoundValue, found_copy}
use Rattle.tree_rules.specs.Statements.{Holds, each_pair}
use Rattle.tree_rules.specs.Order.Time.{keys_differ}
use Rattle.tree_model.specs.Turns.Witness.{sorted_ops}
use Rattle.tree_rules.specs.Order.Ops.{op_count, flat_now}

-- ---- a machine and its operations

-- the leaf's hart and the flat machine's after the witness
pub record IsHartOf (s : FlatMachine) (m : MachineValue) (v : LeafValue) : Type 0 where
  -- they are the same, and the flat machine's hasn't halted
  pub hart : (flat_hart (flat_now s m) v.number).hart ≡ record v.hart { halt = None }
  -- it has counted its operations
  pub done : v.done ≡ op_count v.number m.ops
  -- a hart that halted is one whose next step there is that halt
  pub halt : IfSome v.hart.halt (λ cause. (sc_ok : Bool) → flat_step m.code m.items (flat_now s m) v.number sc_ok ≡ Err cause)

-- the found copy of an item is there, and has the words of the flat memory
pub record HasCurrentCopy (s : FlatMachine) (m : MachineValue) (x : ℕ) : Type 0 where
  pub found : FoundValue
  pub is : found_copy x m ≡ Some found
  pub words : found.words ≡ item_words (flat_now s m) x

pub record IsWitnessed (s : FlatMachine) (m : MachineValue) : Type 0 where
  -- no two operations have one key
  pub keys : Holds (each_pair keys_differ m.ops)
  -- in the order of their keys they are one run of the flat machine from the start
  pub legal : Legal m.code m.items s (sorted_ops m.ops)
  -- each hart's stand there in the order in which it completed them
  pub own_order : (h : ℕ) → filter (is_of h) (sorted_ops m.ops) ≡ filter (is_of h) m.ops
  -- each hart has that run's registers and pc and has counted its operations; one that halted did so at its next step there
  pub harts : AllByRecursion (IsHartOf s m) (machine_leaves m)
  -- every item has a found copy, with the words of that run's memory
  pub copies : (x : ℕ) → x < item_count m.items → HasCurrentCopy s m x

-- ---- the causes of busy turns, as facts of the state before

abbrev pub is_note_of : PendingWhy → Note → Bool
is_note_of (PendingWhy.Local c) (local first joined) = nat_eq first c
is_note_of (PendingWhy.UpRead c) (up_read first joined) = nat_eq first c
is_note_of (PendingWhy.UpErase c) (up_erase d) = nat_eq d c
is_note_of _ _ = false

-- the directory has that note of the item, or is answering, or an entry of it comes down
abbrev pub pends_by : PendingWhy → ℕ → DirValue → Bool
pends_by (PendingWhy.Local c) x d = is_note_of (PendingWhy.Local c) (dir_note x d)
pends_by (PendingWhy.UpRead c) x d = is_note_of (PendingWhy.UpRead c) (dir_note x d)
pends_by (PendingWhy.UpErase c) x d = is_note_of (PendingWhy.UpErase c) (dir_note x d)
pends_by PendingWhy.Answering x d = is_answering x d
pends_by PendingWhy.InDown x d = in_down x d

abbrev pub is_told : Option Bool → Bool
is_told None = false
is_told (Some b) = b

-- the list has as many entries as it has places
abbrev pub is_full : QueueName → MachineValue → Bool
is_full (QueueName.Down bus) m = is_told (ask_bus bus (λ w d ns. nat_eq (length d.down) d.sizes.down_room) false m)
is_full (QueueName.Requests bus) m = is_told (ask_bus bus (λ w d ns. nat_eq (length d.requests) d.sizes.request_room) false m)
is_full (QueueName.Replies bus) m = is_told (ask_bus bus (λ w d ns. nat_eq (length d.replies) d.sizes.reply_room) false m)
is_full (QueueName.LeafReplies leaf) m = is_told (ask_leaf leaf (λ w v. nat_eq (length v.replies) v.sizes.reply_room) false m)

-- no other child of the bus than this one has room for the item
abbrev pub none_has_room : ℕ → ℕ → ℕ → MachineValue → Bool
none_has_room bus c x m = is_told (ask_bus bus (λ w d ns. all_from (λ i n. nat_eq i c || not (child_room x n)) 0 ns) false m)

abbrev pub leaves_nowhere : Turn → ℕ → MachineValue → Bool
leaves_nowhere (Turn.Leave bus child choice) x m = none_has_room bus child x m
leaves_nowhere _ x m = false

abbrev pub cause_holds : Turn → MachineValue → BusyCause → Bool
cause_holds t m (BusyCause.ItemPending bus x why) = is_told (ask_bus bus (λ w d ns. pends_by why x d) false m)
cause_holds t m (BusyCause.QueueFull list) = is_full list m
cause_holds t m (BusyCause.BufferFull leaf) = is_told (ask_leaf leaf (λ w v. nat_eq (length v.buffer) v.sizes.buffer_room) false m)
cause_holds t m (BusyCause.ParkingFull bus) =
    is_told (ask_bus bus (λ w d ns. nat_eq (length d.parked + d.reserved) d.sizes.parking_room) false m)
cause_holds t m (BusyCause.NoRoom x) = leaves_nowhere t x m

abbrev pub busy_has_cause : Turn → MachineValue → TurnAnswer → Bool
busy_has_cause t m (TurnAnswer.Busy cause) = cause_holds t m cause
busy_has_cause t m _ = true

-- where a turn answers busy, the cause that it names is a fact of the state before it
abbrev pub EachCauseHolds : List Turn → MachineValue → Type 0
EachCauseHolds [] m = ⊤
EachCauseHolds (t ∷ ts) m = IsTrue (busy_has_cause t m (turn_of t m).answer) × EachCauseHolds ts (turn_of t m).machine

-- ---- a run

-- the operations of the answers that completed one, in order
abbrev pub op_of_answer : TurnAnswer → List Op
op_of_answer (TurnAnswer.Retired op) = op ∷ []
op_of_answer _ = []

abbrev pub ops_of_answers : List TurnAnswer → List Op
ops_of_answers [] = []
ops_of_answers (a ∷ answers) = op_of_answer a ++ ops_of_answers answers

-- this turn of this hart answered that it has halted
abbrev pub halts_hart : ℕ → Turn → TurnAnswer → Bool
halts_hart h (Turn.Hart hart victim) (TurnAnswer.Halted cause) = nat_eq hart h
halts_hart h _ _ = false

abbrev pub some_halts : ℕ → List Turn → List TurnAnswer → Bool
some_halts h [] answers = false
some_halts h (t ∷ ts) [] = false
some_halts h (t ∷ ts) (a ∷ answers) = halts_hart h t a || some_halts h ts answers

-- a hart that hasn't halted was halted by none of the turns
abbrev pub IsHaltedByTurn : List Turn → List TurnAnswer → LeafValue → Type 0
IsHaltedByTurn turns answers v = v.hart.halt ≡ None → some_halts v.number turns answers ≡ false

-- after these turns from a machine
pub record IsRunWitnessed (s : FlatMachine) (turns : List Turn) (m : MachineValue) : Type 0 where
  pub machine : IsWitnessed s (run_of turns m).machine
  -- the operations are those of the answers, in order, and no other
  pub ops : (run_of turns m).machine.ops ≡ m.ops ++ ops_of_answers (run_of turns m).answers
  pub running : AllByRecursion (IsHaltedByTurn turns (run_of turns m).answers) (machine_leaves (run_of turns m).machine)
  pub causes : EachCauseHolds turns m

-- after each of the turns
abbrev pub EachTurnWitnessed : FlatMachine → List Turn → MachineValue → Type 0
EachTurnWitnessed s turns m = (k : ℕ) → IsRunWitnessed s (take k turns) m
