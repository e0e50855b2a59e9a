-- Of `ddm_types`, what this crate and those above it name.
pub use Rattle.start_parts.specs.DdmTypes.ItemTable
pub use Rattle.start_parts.specs.DdmTypes.declared
