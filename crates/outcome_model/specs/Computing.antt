-- One name that opens every definition of outcomes and all that they stand on.
use Rattle.text_model.specs.Computing.{runs_compute}
use Rattle.outcome_model.specs.Outcome.{end_text, ends_text, outcome_of, seed_outcome}
use Rattle.outcome_model.specs.Outcomes.{outcome_table, outcomes_text}
use Rattle.outcome_model.specs.Table.{counted, tallied, placed, in_order, table_of, line_text, table_text}

-- Where a proof says `unfolding outcomes_compute`, the outcomes of runs compute.
unfoldable pub outcomes_compute : Unit {0}
unfolding runs_compute end_text ends_text outcome_of seed_outcome outcome_table outcomes_text counted tallied placed
    in_order table_of line_text table_text
outcomes_compute = tt
