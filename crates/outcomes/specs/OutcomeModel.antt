-- Of `outcome_model`, what this crate and those above it name.
pub use Rattle.outcome_model.specs.FlatOutcome
pub use Rattle.outcome_model.specs.Halted
pub use Rattle.outcome_model.specs.Outcome
pub use Rattle.outcome_model.specs.Outcomes
pub use Rattle.outcome_model.specs.Table
