-- Of `ddm_types`, what this crate and those above it name.
pub use Rattle.ddm_outside.specs.DdmTypes.ItemTable
pub use Rattle.ddm_outside.specs.DdmTypes.declared
