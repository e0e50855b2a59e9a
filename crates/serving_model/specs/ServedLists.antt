-- What is claimed of served lists: each list of operations that a flat memory can complete, in which an SC that has its
-- reservation stores, is one that the machine completes.
-- Letters: f is a flat machine, m a machine that shows it.
-- To be believed: it is what is claimed of them.
use Rattle.std.specs.Prelude.{◌≡◌, ◌<◌, ℕ, Bool, true, false, not, ◌&&◌, nat_eq, List, [], ◌∷◌, ◌++◌, length, Option}
use Rattle.std.specs.Prelude.{Some, None, is_some, option_and_then, Ok, Err, if◌then◌else◌}
use Rattle.serving_model.specs.DdmTypes.CodeMap.{CodeWord}
use Rattle.serving_model.specs.DdmTypes.ItemTable.{ItemTable, item_count}
use Rattle.serving_model.specs.DdmTypes.declared.operations.Effect.{Effect}
use Rattle.serving_model.specs.DdmTypes.declared.operations.Op.{Op}
use Rattle.serving_model.specs.DdmTypes.declared.turns.Turn.{Turn}
use Rattle.bus_laws.specs.FlatModel.declared.Ask.{Ask}
use Rattle.bus_laws.specs.FlatModel.Hart.{ask_of}
use Rattle.bus_laws.specs.FlatModel.Flat.{FlatMachine, flat_hart, flat_step, has_reserved}
use Rattle.serving_model.specs.FlatModel.Legal.{if_effect, is_sc_ok, legal_step, legal_run}
use Rattle.serving_model.specs.TreeModel.State.Values.{MachineValue}
use Rattle.bus_laws.specs.IsTree.{IsTree}
use Rattle.serving_model.specs.TreeModel.Start.Sources.{ImageValue, TreeValue}
use Rattle.serving_model.specs.TreeModel.Start.Machine.{start_of, flat_start_of}
use Rattle.serving_model.specs.TreeModel.Turns.Machine.{run_of}
use Rattle.serving_model.specs.Rest.{has_room, sizes_have_room}
use Rattle.serving_model.specs.OneLeaf.{hart_at}
use Rattle.serving_model.specs.Serving.{same_operation, too_many_turns, serve_from, serve_of}
use Rattle.serving_model.specs.Shows.{Shows}

-- the flat machine after a record, if the record is the step of its hart; an SC that has its reservation stores
abbrev pub storing_step : List CodeWord → ItemTable → FlatMachine → Op → Option FlatMachine
storing_step code items f op =
    if nat_eq (flat_hart f op.hart).hart.pc op.pc then if_effect op.effect (flat_step code items f op.hart true) else None

-- and after a list of records, if each in turn is the step of its hart
abbrev pub storing_run : List CodeWord → ItemTable → FlatMachine → List Op → Option FlatMachine
storing_run code items f [] = Some f
storing_run code items f (op ∷ ops) = option_and_then (λ next. storing_run code items next ops) (storing_step code items f op)

-- ---- which lists these are

-- an SC whose hart has its item reserved, with an effect that doesn't store
abbrev pub fails_by : Ask → Option ℕ → Effect → Bool
fails_by Ask.Plain reserved effect = false
fails_by (Ask.Put byte) reserved effect = false
fails_by (Ask.NeedsShared x lr) reserved effect = false
fails_by (Ask.NeedsExclusive x) reserved effect = false
fails_by (Ask.Conditional x) reserved effect = has_reserved reserved x && not (is_sc_ok effect)
fails_by (Ask.Halt cause) reserved effect = false

abbrev pub fails_reserved : List CodeWord → ItemTable → FlatMachine → Op → Bool
fails_reserved code items f op = fails_by (ask_of code items (flat_hart f op.hart).hart) (flat_hart f op.hart).reserved op.effect

abbrev pub where_next : (FlatMachine → Bool) → Option FlatMachine → Bool
where_next test None = true
where_next test (Some next) = test next

-- no record of a legal list is of such an SC
abbrev pub reserved_ones_store : List CodeWord → ItemTable → FlatMachine → List Op → Bool
reserved_ones_store code items f [] = true
reserved_ones_store code items f (op ∷ ops) =
    not (fails_reserved code items f op)
    && where_next (λ next. reserved_ones_store code items next ops) (legal_step code items f op)

pub record IsStoring (code : List CodeWord) (items : ItemTable) (f : FlatMachine) (ops : List Op) (last : FlatMachine) : Type 0 where
  pub legal : storing_run code items f ops ≡ Some last → legal_run code items f ops ≡ Some last
  pub reserved : storing_run code items f ops ≡ Some last → reserved_ones_store code items f ops ≡ true
  pub stores :
      legal_run code items f ops ≡ Some last → reserved_ones_store code items f ops ≡ true →
      storing_run code items f ops ≡ Some last

-- They are the legal lists in which each SC stores whose hart has its item reserved, and no others.
abbrev pub StoringRunsAreLegal : Type 0
StoringRunsAreLegal =
    (code : List CodeWord) (items : ItemTable) (f : FlatMachine) (ops : List Op) (last : FlatMachine) →
    IsStoring code items f ops last

-- ---- lists that are served

-- the same operations in the same order; keys aren't looked at
abbrev pub same_operations : List Op → List Op → Bool
same_operations [] [] = true
same_operations (a ∷ ops) (b ∷ done) = same_operation a b && same_operations ops done
same_operations _ _ = false

-- the run completes these operations in their order and no other, and then the machine shows this flat machine
pub record Completed (m : MachineValue) (ops : List Op) (f : FlatMachine) (turns : List Turn) : Type 0 where
  pub done : List Op
  pub operations : (run_of turns m).machine.ops ≡ m.ops ++ done
  pub same : same_operations ops done ≡ true
  pub shows : Shows (run_of turns m).machine f

-- so many turns were made, and this is the next line
pub data IsServedList (line made : ℕ) (m : MachineValue) (ops : List Op) (f : FlatMachine) : Type 0 where
  served : (turns : List Turn) → serve_from line made ops m ≡ Ok turns → Completed m ops f turns → IsServedList line made m ops f
  too_many : (at : ℕ) → serve_from line made ops m ≡ Err (too_many_turns at) → IsServedList line made m ops f

-- Where a machine shows a flat machine, and has its harts, each such list of the flat machine is served, unless its
-- turns are too many.
abbrev pub ListsAreServed : Type 0
ListsAreServed =
    (m : MachineValue) (f last : FlatMachine) (ops : List Op) (line made : ℕ) → Shows m f →
    ((h : ℕ) → h < length f.harts → is_some (hart_at h m) ≡ true)
    → storing_run m.code m.items f ops ≡ Some last → IsServedList line made m ops last

-- ---- from the start

-- the machine shows this flat machine, and has its harts
pub record StartShows (m : MachineValue) (f : FlatMachine) : Type 0 where
  pub shows : Shows m f
  pub harts : (h : ℕ) → h < length f.harts → is_some (hart_at h m) ≡ true

-- The machine of every accepted tree with room shows its flat machine before its first turn.
abbrev pub StartsAreShown : Type 0
StartsAreShown =
    (t : TreeValue) (i : ImageValue) (m : MachineValue) → IsTree t → start_of t i ≡ Ok m → has_room m ≡ true →
    StartShows m (flat_start_of t i)

-- Where the sizes of a tree have room for its items, its machine has.
abbrev pub StartsHaveRoom : Type 0
StartsHaveRoom =
    (t : TreeValue) (i : ImageValue) (m : MachineValue) → start_of t i ≡ Ok m →
    sizes_have_room t (item_count m.items) ≡ true → has_room m ≡ true

-- the machine shows every order of one flat memory: the list is served, unless its turns are too many
pub data IsServed (ops : List Op) (m : MachineValue) (f : FlatMachine) : Type 0 where
  shown : (turns : List Turn) → serve_of ops m ≡ Ok turns → Completed m ops f turns → IsServed ops m f
  too_long : (at : ℕ) → serve_of ops m ≡ Err (too_many_turns at) → IsServed ops m f

-- The machine of every accepted tree with room completes every list of operations that one flat memory completes, in its
-- order and no other, where an SC that has its reservation stores.
abbrev pub EveryOrderIsShown : Type 0
EveryOrderIsShown = (t : TreeValue) (i : ImageValue) (m : MachineValue) → IsTree t → start_of t i ≡ Ok m → has_room m ≡ true
    → (ops : List Op) (last : FlatMachine) → storing_run m.code m.items (flat_start_of t i) ops ≡ Some last → IsServed ops m last

-- And every legal list that is served is completed so: no other operation completes, and none in another order.
abbrev pub ServedListsAreCompleted : Type 0
ServedListsAreCompleted =
    (t : TreeValue) (i : ImageValue) (m : MachineValue) → IsTree t → start_of t i ≡ Ok m → has_room m ≡ true →
    (ops : List Op) (last : FlatMachine) (turns : List Turn) →
    legal_run m.code m.items (flat_start_of t i) ops ≡ Some last → serve_of ops m ≡ Ok turns →
    Completed m ops last turns
