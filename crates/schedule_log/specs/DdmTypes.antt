-- Of `ddm_types`, what this crate and those above it name.
pub use Rattle.text_model.specs.DdmTypes.declared
