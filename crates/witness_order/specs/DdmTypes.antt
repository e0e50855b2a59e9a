-- Of `ddm_types`, what this crate and those above it name.
pub use Rattle.operation_list.specs.DdmTypes.Keys
pub use Rattle.operation_list.specs.DdmTypes.declared
