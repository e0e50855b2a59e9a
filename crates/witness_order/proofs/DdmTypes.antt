-- Of `ddm_types`, what this crate and those above it name.
pub use Rattle.operation_list.proofs.DdmTypes.KeyOrder
pub use Rattle.operation_list.proofs.DdmTypes.Permuted
