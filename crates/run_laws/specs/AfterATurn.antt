-- What holds after one turn of a machine that is in order, by what is promised of it before.
-- Letters: m is the machine, t a turn.
-- To be believed: it is what is claimed of every turn.
use Rattle.std.specs.Prelude.{ℕ, List}
use Rattle.headline.specs.DdmTypes.declared.sizes.Start.{Start}
use Rattle.headline.specs.DdmTypes.declared.turns.Turn.{Turn}
use Rattle.headline.specs.FlatModel.Flat.{flat_start}
use Rattle.headline.specs.TreeModel.State.Values.{MachineValue}
use Rattle.headline.specs.TreeModel.State.Shape.{IsShaped}
use Rattle.headline.specs.TreeModel.Turns.Machine.{turn_of}
use Rattle.headline.specs.TreeModel.Turns.Witness.{sorted_ops}
use Rattle.headline.specs.TreeRules.Bus.Rules.{IsMachineOk}
use Rattle.headline.specs.TreeRules.Order.Rules.{IsCore, IsTimed}
use Rattle.lr_sc_laws.specs.Between.{EachScHasItsLr}

-- The machine keeps its rules, and its operations are in order from a flat machine at its start. Then before each SC that stores there
-- is its LR, and between them no store of another hart to its item.
abbrev pub TurnsKeepPairs : Type 0
TurnsKeepPairs =
    (start : Start) (words : List (List ℕ)) (t : Turn) (m : MachineValue) → IsShaped m → IsMachineOk m → IsTimed m →
    IsCore (flat_start start words) m
    → let after = (turn_of t m).machine in EachScHasItsLr after.items (sorted_ops after.ops)
