-- Of `ddm_types`, what this crate names.
pub use Rattle.value_laws.specs.DdmTypes.ItemTable
pub use Rattle.value_laws.specs.DdmTypes.declared
