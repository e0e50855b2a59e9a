-- Of `ddm_types`, what this crate and those above it name.
pub use Rattle.value_laws.specs.DdmTypes.ItemTable
pub use Rattle.value_laws.specs.DdmTypes.declared
