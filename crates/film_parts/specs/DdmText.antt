-- Of `ddm_text`, what this crate and those above it name.
pub use Rattle.text_model.specs.DdmText.Adds
pub use Rattle.text_model.specs.DdmText.Hex
