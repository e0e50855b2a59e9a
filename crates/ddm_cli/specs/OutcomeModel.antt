-- Of `outcome_model`, what this crate and those above it name.
pub use Rattle.outcomes.specs.OutcomeModel.FlatOutcome
pub use Rattle.outcomes.specs.OutcomeModel.Outcomes
pub use Rattle.outcomes.specs.OutcomeModel.Table
