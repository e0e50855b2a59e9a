use Rattle.std.proofs.Common.{◌≡◌, ◌++◌, drop}
use Rattle.litmus_model.specs.Program.{steps_of}
use Rattle.litmus_model.proofs.thread_steps.steps_of.Given as goal

abbrev pub invariant-loop-step : goal.invariant-loop-step
invariant-loop-step l = steps_of l.thread l.program ≡ l.steps.items ++ steps_of l.thread (drop l.step-index l.program)
