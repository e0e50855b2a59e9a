-- Of `outcome_model`, what this crate and those above it name.
pub use Rattle.join_model.specs.OutcomeModel.Table
