-- Of `ddm_text`, what this crate and those above it name.
pub use Rattle.outcome_model.specs.DdmText.Adds
pub use Rattle.outcome_model.specs.DdmText.Numbers
