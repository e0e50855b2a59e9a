-- Of `ddm_types`, what this crate and those above it name.
pub use Rattle.time_laws.specs.DdmTypes.CodeMap
pub use Rattle.time_laws.specs.DdmTypes.ItemTable
pub use Rattle.time_laws.specs.DdmTypes.Keys
pub use Rattle.time_laws.specs.DdmTypes.declared
