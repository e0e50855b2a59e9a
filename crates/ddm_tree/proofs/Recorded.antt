-- What an answer adds to a machine, part by part.
use Rattle.std.proofs.Common.{◌≡◌, refl}
use Rattle.ddm_tree.specs.DdmTypes.declared.answers.TurnAnswer.{TurnAnswer}
use Rattle.ddm_tree.specs.TreeModel.State.Values.{MachineValue}
use Rattle.ddm_tree.specs.TreeModel.Turns.Machine.{recorded}
use Rattle.ddm_tree.specs.Machine.{ops_after, traffic_after}

pub recorded-parts : (a : TurnAnswer) (m : MachineValue) → recorded a m ≡ record m { ops = ops_after a m.ops; traffic = traffic_after a m.traffic }
recorded-parts (TurnAnswer.Retired op) m = refl
recorded-parts (TurnAnswer.Issued kind x) m = refl
recorded-parts (TurnAnswer.Waiting x) m = refl
recorded-parts (TurnAnswer.Halted cause) m = refl
recorded-parts (TurnAnswer.Granted entry) m = refl
recorded-parts TurnAnswer.Empty m = refl
recorded-parts (TurnAnswer.Busy cause) m = refl
