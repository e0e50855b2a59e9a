use Rattle.machine_states.proofs.States.{same-frame}
use Rattle.machine_states.proofs.machine_states.MachineStates.turn_back.Goals as goal

pub copy_roomy-requires-clause-frame : goal.copy_roomy-requires-clause-frame
copy_roomy-requires-clause-frame c = same-frame c.self.inside.made c.self.inside.start c.self.inside.at c.self.inside.reached c.self.invariant
