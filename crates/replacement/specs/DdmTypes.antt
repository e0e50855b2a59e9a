-- Of `ddm_types`, what this crate and those above it name.
pub use Rattle.state_reading.specs.DdmTypes.declared
