-- Worked examples: the ends of a machine of one hart, before its first instruction, at its breakpoint and at a call that there isn't,
-- and what a table of four ends is in a log.
use Rattle.std.specs.Prelude.{◌≡◌, ℕ, List, [], ◌∷◌, codes, replicate}
use Rattle.outcome_model.specs.Examples.{tree_with}
use Rattle.outcome_model.specs.Table.{table_of}
use Rattle.recording_model.specs.TreeModel.State.Values.{MachineValue}
use Rattle.recording_model.specs.TreeModel.Start.Machine.{start_machine}
use Rattle.recording_model.specs.TreeModel.Start.Sources.{ImageValue}
use Rattle.recording_model.specs.TreeModel.Turns.Machine.{run_of}
use Rattle.recording_model.specs.TextModel.Schedule.{hart_turns}
use Rattle.litmus_model.specs.declared.parts.Target.TheVariants.{Register, Location}
use Rattle.litmus_model.specs.declared.test.Quantifier.TheVariants.{Exists}
use Rattle.litmus_model.specs.StatesText.{RunStates}
use Rattle.litmus_model.specs.Test.{Test}
use Rattle.litmus_states.specs.States.{faulted_end, run_states, test_end, unfinished_end}

-- x11, which begins with the number of harts, and a location are observed
abbrev pub watching : Test
watching = record {
  name = codes "Watch";
  threads = 1;
  program = [];
  init = [];
  quantifier = Exists;
  chunks = [];
  observed = Register 0 11 ∷ Location (codes "x") ∷ [];
  locations = codes "x" ∷ [];
}

-- one instruction at 0x10000, and the word 7 where the first location is
abbrev pub image_with : List ℕ → ImageValue
image_with instruction = record {
  entry = 0x10000;
  segments =
      record { header = 0; vaddr = 0x10000; flags = 5; bytes = instruction; memsz = 4 } ∷
      record { header = 1; vaddr = 0x200000; flags = 6; bytes = 7 ∷ replicate 15 0; memsz = 16 } ∷ [];
}

-- ebreak
abbrev pub stopping : MachineValue
stopping = start_machine (tree_with 1) (image_with (0x73 ∷ 0 ∷ 0x10 ∷ 0 ∷ []))

-- ecall, with 0 in x17
abbrev pub calling : MachineValue
calling = start_machine (tree_with 1) (image_with (0x73 ∷ 0 ∷ 0 ∷ 0 ∷ []))

abbrev pub after_turn : MachineValue → MachineValue
after_turn m = (run_of (hart_turns 1) m).machine

abbrev pub end_of : MachineValue → List ℕ
end_of m = test_end watching 16 (0 ∷ []) m

-- of the seeds 5 to 8
abbrev pub four_runs : RunStates
four_runs = run_states 4 (table_of 5 ((0 ∷ 1 ∷ []) ∷ unfinished_end ∷ (0 ∷ 1 ∷ []) ∷ faulted_end ∷ []))

pub record SmallStates : Type 0 where
  pub before : end_of stopping ≡ 2 ∷ []
  pub stopped : end_of (after_turn stopping) ≡ 0 ∷ 1 ∷ 7 ∷ []
  pub faulted : end_of (after_turn calling) ≡ 1 ∷ []
  pub runs :
      four_runs
      ≡ record { states = record { times = 2; seed = 5; words = 1 ∷ [] } ∷ []; runs = 4; unfinished = 1; faulted = 1 }
