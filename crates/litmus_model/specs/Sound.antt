-- What every test has that is read: its instructions are ones that words can be, its labels are near, its locations few.
use Rattle.std.specs.Prelude.{ℕ, ◌+◌, ◌≤◌, List, [], ◌∷◌, length, All}
use Rattle.rv_decode.specs.Valid.{IsRegister, IsValid}
use Rattle.litmus_model.specs.declared.parts.Step.{Step}
use Rattle.litmus_model.specs.declared.parts.Step.TheVariants.{Label, Plain, Branch, Jump}
use Rattle.litmus_model.specs.declared.parts.PlacedStep.{PlacedStep}
use Rattle.litmus_model.specs.Program.{steps_of}
use Rattle.litmus_model.specs.Image.{count_of}
use Rattle.litmus_model.specs.Test.{Test}

abbrev pub IsSoundStep : Step → Type 0
IsSoundStep (Label name) = Unit {0}
IsSoundStep (Plain i) = IsValid i
IsSoundStep (Branch op rs1 rs2 label) = IsRegister rs1 × IsRegister rs2
IsSoundStep (Jump label) = Unit {0}

-- how many instructions steps are
unfoldable pub instruction_count : List PlacedStep → ℕ
instruction_count [] = 0
instruction_count (s ∷ ss) = count_of s.step + instruction_count ss

pub record IsSound (test : Test) : Type 0 where
  pub steps : All (λ (s : PlacedStep). IsSoundStep s.step) test.program
  -- at most 256 rows, each of at most two instructions of a thread
  pub near : (k : ℕ) → instruction_count (steps_of k test.program) ≤ 512
  pub few : length test.locations ≤ 256
