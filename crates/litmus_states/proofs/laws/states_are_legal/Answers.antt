use Rattle.litmus_states.proofs.Logs.{states-legal}
use Rattle.litmus_states.proofs.laws.states_are_legal.Goals as goal

pub returns : goal.returns
returns c = states-legal
