-- What the code keeps of a program, and what holds of its steps while rows are read.
use Rattle.std.specs.Prelude.{ℕ, ◌+◌, ◌*◌, ◌≤◌, nat_lt, List, All, if◌then◌else◌}
use Rattle.litmus_model.specs.declared.parts.PlacedStep.{PlacedStep}
use Rattle.litmus_model.specs.Program.{Program, steps_of}
use Rattle.litmus_model.specs.Sound.{IsSoundStep, instruction_count}
use Rattle.litmus_read.specs.declared.program.Program as kept

abbrev pub program_from : kept.Program → Program
program_from p = record { threads = p.threads; steps = p.steps.items }

-- steps of so many rows, and of the next row's cells before this thread: at most two instructions of a thread in each row
pub record IsKept (rows thread : ℕ) (steps : List PlacedStep) : Type 0 where
  pub sound : All (λ (s : PlacedStep). IsSoundStep s.step) steps
  pub near : (k : ℕ) → instruction_count (steps_of k steps) ≤ 2 * rows + (if nat_lt k thread then 2 else 0)
