-- Of `outcome_model`, what this crate and those above it name.
pub use Rattle.outcome_model.specs.Table
pub use Rattle.outcome_model.specs.TableLaws
