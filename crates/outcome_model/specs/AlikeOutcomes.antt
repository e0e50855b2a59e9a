-- That machines which differ in time alone, and whose harts have put out the same, have one outcome.
-- Letters: m and n are machines.
-- To be believed: it is what is claimed of them.
use Rattle.std.specs.Prelude.{◌≡◌}
use Rattle.outcome_model.specs.TreeModel.State.Values.{MachineValue}
use Rattle.time_laws.specs.Forget.{Alike}
use Rattle.outcome_model.specs.Outcome.{outcome_of}
use Rattle.outcome_model.specs.Halted.{all_halted}

abbrev pub AlikeHaveOneOutcome : Type 0
AlikeHaveOneOutcome = (m n : MachineValue) → Alike m n → outcome_of m ≡ outcome_of n

abbrev pub AlikeHaltAlike : Type 0
AlikeHaltAlike = (m n : MachineValue) → Alike m n → all_halted m ≡ all_halted n
