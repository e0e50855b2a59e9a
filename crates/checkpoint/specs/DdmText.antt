-- Of `ddm_text`, what this crate and those above it name.
pub use Rattle.spelling_laws.specs.DdmText.Adds
