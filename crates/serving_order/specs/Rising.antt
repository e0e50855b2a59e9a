-- The keys of served runs: of two operations on one item, of which one stores to it, the first to complete has the lesser.
-- Letters: s is the flat machine at the start, m a machine, o and p are operations, x is an item.
-- To be believed: it is what is claimed of them.
use Rattle.std.specs.Prelude.{◌≡◌, ℕ, Bool, true, ◌&&◌, ◌||◌, List, Some, Ok}
use Rattle.headline.specs.DdmTypes.ItemTable.{ItemTable}
use Rattle.headline.specs.DdmTypes.Keys.{key_less}
use Rattle.headline.specs.DdmTypes.declared.answers.TurnAnswer.{TurnAnswer}
use Rattle.headline.specs.DdmTypes.declared.operations.Op.{Op}
use Rattle.headline.specs.DdmTypes.declared.turns.Turn.{Turn}
use Rattle.headline.specs.FlatModel.Flat.{FlatMachine}
use Rattle.headline.specs.FlatModel.Legal.{on_item, changes_item}
use Rattle.headline.specs.TreeModel.Start.Sources.{ImageValue, TreeValue}
use Rattle.headline.specs.TreeModel.Start.Machine.{start_of, flat_start_of}
use Rattle.headline.specs.TreeModel.State.Values.{MachineValue}
use Rattle.headline.specs.TreeModel.Turns.Machine.{turn_of, run_of}
use Rattle.headline.specs.TreeRules.Statements.{Statement, Holds, is_so, where_so, each, each_pair}
use Rattle.headline.specs.BusLaws.IsTree.{IsTree}
use Rattle.headline.specs.OrderLaws.EveryTurn.{IsOrderly}
use Rattle.serving_model.specs.Rest.{is_at_rest, has_room}
use Rattle.serving_model.specs.Serving.{serve_of}
use Rattle.serving_model.specs.ServedLists.{storing_run}

-- both are on the item, and one of them stores to it
abbrev pub conflict : ItemTable → ℕ → Op → Op → Bool
conflict items x o p =
    on_item items x o.effect
    && (on_item items x p.effect && (changes_item items x o.effect || changes_item items x p.effect))

abbrev pub has_lesser_key : ItemTable → ℕ → Op → Op → Statement
has_lesser_key items x o p = where_so (conflict items x o p) (is_so (key_less o.key p.key))

-- of each two that conflict the first has the lesser key
abbrev pub KeysRise : ItemTable → List Op → Type 0
KeysRise items ops = (x : ℕ) → Holds (each_pair (has_lesser_key items x) ops)

-- In a machine at rest, an operation that completes has a greater key than those before it that it conflicts with.
abbrev pub RestingTurnsRise : Type 0
RestingTurnsRise =
    (s : FlatMachine) (m : MachineValue) (hart victim : ℕ) (op : Op) → IsOrderly s m → is_at_rest m ≡ true →
    (turn_of (Turn.Hart hart victim) m).answer ≡ TurnAnswer.Retired op
    → (x : ℕ) → Holds (each (λ o. has_lesser_key m.items x o op) m.ops)

-- So keys rise in the run of every list that is served.
abbrev pub ServedKeysRise : Type 0
ServedKeysRise = (t : TreeValue) (i : ImageValue) (m : MachineValue) → IsTree t → start_of t i ≡ Ok m → has_room m ≡ true
    → (ops : List Op) (last : FlatMachine) (turns : List Turn) →
    storing_run m.code m.items (flat_start_of t i) ops ≡ Some last → serve_of ops m ≡ Ok turns →
    KeysRise m.items (run_of turns m).machine.ops
