use Rattle.std.proofs.Common.{◌≡◌, find, drop}
use Rattle.explorer.specs.SearchModel.Tried.{is_quiet}
use Rattle.machine_states.specs.Listed.{first_victims}
use Rattle.machine_states.proofs.machine_states.MachineStates.quiet_turn.Given as goal

-- none of the first turns is quiet
abbrev pub invariant-loop-leaf : goal.invariant-loop-leaf
invariant-loop-leaf l = record {
  start : l.self.start ≡ l.fn.self.start;
  at : l.self.at ≡ l.fn.self.at;
  found : find (is_quiet l.fn.self.at.machine) (first_victims l.fn.self.at.machine) ≡ find (is_quiet l.fn.self.at.machine) (drop l.leaf (first_victims l.fn.self.at.machine));
}
