use Rattle.litmus_states.proofs.Logs.{states-counted}
use Rattle.litmus_states.proofs.laws.states_are_counted.Goals as goal

pub returns : goal.returns
returns c = states-counted
