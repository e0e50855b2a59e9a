-- What a hart put out, in another order than in the witness.
use Rattle.std.specs.Prelude.{◌≡◌, ℕ, List, [], ◌∷◌, None}
use Rattle.broken_runs.specs.DdmTypes.declared.operations.Effect.{Effect}
use Rattle.broken_runs.specs.DdmTypes.declared.operations.Op.{Op}
use Rattle.broken_runs.specs.TreeModel.State.Values.{MachineValue}
use Rattle.broken_runs.specs.TreeModel.Turns.Machine.{run_of}
use Rattle.broken_runs.specs.TreeModel.Turns.Witness.{sorted_ops}
use Rattle.text_model.specs.Report.{put_texts}
use Rattle.text_model.specs.Run.{HasWitnessedOutput, EachOutputWitnessed}
use Rattle.broken_runs.specs.Run.{hart_at, leaf_at, machine_of, key_of}
use Rattle.broken_runs.specs.BrokenRuns.{turn_of_hart_0}

abbrev pub put : ℕ → ℕ → Op
put granted byte = record { key = key_of granted 0 0; hart = 0; pc = 0x10008; effect = Effect.Put byte }

-- the hart is about to put one byte more, with the least key
abbrev pub putting : List Op → MachineValue
putting ops = machine_of (leaf_at 0 (hart_at 0x10008 0 None) 2 None ∷ []) ops

abbrev pub with_one_more : List Op → MachineValue
with_one_more ops = (run_of turn_of_hart_0 (putting ops)).machine

-- by its key the second byte comes first
abbrev pub two_exchanged : List Op
two_exchanged = put 20 0x48 ∷ put 10 0x49 ∷ []

abbrev pub another_before : List Op
another_before = put 20 0x49 ∷ []

pub record OutputExchanged : Type 0 where
  pub refused : ¬ HasWitnessedOutput (putting two_exchanged)
  -- after the turn both orders give the same bytes
  pub in_the_end : put_texts 0 (sorted_ops (with_one_more two_exchanged).ops) ≡ put_texts 0 (with_one_more two_exchanged).ops
  pub at_first_refused : ¬ EachOutputWitnessed turn_of_hart_0 (putting two_exchanged)
  -- before the turn they do
  pub before : HasWitnessedOutput (putting another_before)
  pub in_the_end_refused : ¬ EachOutputWitnessed turn_of_hart_0 (putting another_before)
