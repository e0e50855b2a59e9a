-- What is printed of the outcomes of a machine's seeds.
-- To be believed: it is what the command prints.
use Rattle.std.specs.Prelude.{ℕ, List}
use Rattle.outcome_model.specs.TreeModel.State.Values.{MachineValue}
use Rattle.text_model.specs.Schedule.{ShapeView}
use Rattle.outcome_model.specs.Outcome.{seed_outcomes}
use Rattle.outcome_model.specs.Table.{OutcomeLine, table_of, table_text}

-- the table of so many seeds from the first on, each with so many turns from the same machine
unfoldable pub outcome_table : ShapeView → ℕ → MachineValue → ℕ → ℕ → List OutcomeLine
outcome_table shape turns m first count = table_of first (seed_outcomes shape turns m first count)

unfoldable pub outcomes_text : ShapeView → ℕ → MachineValue → ℕ → ℕ → List ℕ
outcomes_text shape turns m first count = table_text count (outcome_table shape turns m first count)
