-- Of `ddm_text`, what this crate and those above it name.
pub use Rattle.join_model.specs.DdmText.Adds
pub use Rattle.join_model.specs.DdmText.Numbers
