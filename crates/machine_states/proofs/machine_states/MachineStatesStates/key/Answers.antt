use Rattle.machine_states.proofs.States.{later-form, later-width}
use Rattle.machine_states.proofs.machine_states.MachineStatesStates.key.Goals as goal

pub push_key-requires-clause-form : goal.push_key-requires-clause-form
push_key-requires-clause-form c = later-form 1048577 c.self.inside.start c.self.inside.reached c.self.invariant.later c.self.invariant.can

pub push_key-requires-clause-width : goal.push_key-requires-clause-width
push_key-requires-clause-width c = later-width 1048577 c.self.inside.start c.self.inside.reached c.self.invariant.later c.self.invariant.can
