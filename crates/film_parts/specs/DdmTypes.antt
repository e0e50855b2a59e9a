-- Of `ddm_types`, what this crate and those above it name.
pub use Rattle.state_words.specs.DdmTypes.Keys
pub use Rattle.state_words.specs.DdmTypes.declared
