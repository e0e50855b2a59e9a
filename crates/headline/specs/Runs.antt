-- A whole run: from its start, whatever the turns, the machine stays in the rules, and after each turn the witness is one run of
-- the flat machine.
-- To be believed: it is what is claimed of every run.
use Rattle.std.specs.Prelude.{◌≡◌, List, Ok}
use Rattle.headline.specs.DdmTypes.declared.turns.Turn.{Turn}
use Rattle.headline.specs.TreeModel.State.Values.{MachineValue}
use Rattle.headline.specs.TreeModel.Turns.Machine.{run_of}
use Rattle.headline.specs.TreeModel.Start.Sources.{TreeValue, ImageValue}
use Rattle.headline.specs.TreeModel.Start.Machine.{flat_start_of, start_of}
use Rattle.headline.specs.TreeRules.Bus.Rules.{IsMachineOk}
use Rattle.headline.specs.TreeRules.Order.Rules.{IsInOrder}
use Rattle.headline.specs.TreeRules.Witness.{EachTurnWitnessed}
use Rattle.headline.specs.BusLaws.IsTree.{IsTree}
use Rattle.order_laws.specs.EveryTurn.{IsOrderly}

-- ---- the start

-- the machine of a tree and an image is in order from its own flat machine
abbrev pub StartIsOrderly : Type 0
StartIsOrderly = (t : TreeValue) (i : ImageValue) (m : MachineValue) → IsTree t → start_of t i ≡ Ok m → IsOrderly (flat_start_of t i) m

-- ---- runs

-- the order theorem: of every tree and image from which a machine is made, and every list of turns
abbrev pub EveryRunIsWitnessed : Type 0
EveryRunIsWitnessed =
    (t : TreeValue) (i : ImageValue) (m : MachineValue) → IsTree t → start_of t i ≡ Ok m → (ts : List Turn) →
    EachTurnWitnessed (flat_start_of t i) ts m

-- and at its end all rules of order hold, and those of every bus
abbrev pub EveryRunIsInOrder : Type 0
EveryRunIsInOrder =
    (t : TreeValue) (i : ImageValue) (m : MachineValue) → IsTree t → start_of t i ≡ Ok m → (ts : List Turn) →
    IsMachineOk (run_of ts m).machine × IsInOrder (flat_start_of t i) (run_of ts m).machine
