-- Of `ddm_types`, what this crate and those above it name.
pub use Rattle.bus_judging.specs.DdmTypes.Keys
pub use Rattle.bus_judging.specs.DdmTypes.declared
