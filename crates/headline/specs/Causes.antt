-- The causes of answers, as facts of the state before.
-- To be believed: it is what is claimed of every answer.
use Rattle.std.specs.Prelude.{IsTrue}
use Rattle.headline.specs.DdmTypes.declared.turns.Turn.{Turn}
use Rattle.headline.specs.TreeModel.State.Values.{MachineValue}
use Rattle.headline.specs.TreeModel.State.Shape.{IsShaped}
use Rattle.headline.specs.TreeModel.Turns.Machine.{turn_of}
use Rattle.headline.specs.TreeRules.Bus.Rules.{IsMachineOk}
use Rattle.headline.specs.TreeRules.Witness.{busy_has_cause}

-- where a turn answers busy, the cause that it names is a fact of the machine before it
abbrev pub BusyHasItsCause : Type 0
BusyHasItsCause = (t : Turn) (m : MachineValue) → IsShaped m → IsMachineOk m → IsTrue (busy_has_cause t m (turn_of t m).answer)
