use Rattle.std.proofs.Common.{◌≡◌, filter, take}
use Rattle.outcomes.specs.RecordingModel.Doing.{does_something}
use Rattle.explorer.specs.SearchModel.Tried.{turns_of_tree}
use Rattle.machine_states.proofs.machine_states.MachineStates.doing_turns.Given as goal

-- the first turns were judged
abbrev pub invariant-loop-turn : goal.invariant-loop-turn
invariant-loop-turn l = record {
  start : l.self.start ≡ l.fn.self.start;
  at : l.self.at ≡ l.fn.self.at;
  all : l.turn-items ≡ turns_of_tree l.fn.self.at.machine;
  kept : l.turns.items ≡ filter (λ t. does_something t l.fn.self.at.machine) (take l.turn-index l.turn-items);
}
