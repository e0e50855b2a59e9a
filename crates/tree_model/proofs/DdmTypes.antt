-- Of `ddm_types`, what this crate and those above it name.
pub use Rattle.flat_model.proofs.DdmTypes.Entries
pub use Rattle.flat_model.proofs.DdmTypes.KeyOrder
