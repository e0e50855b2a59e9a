-- Of `ddm_types`, what this crate and those above it name.
pub use Rattle.ddm_types.proofs.KeyOrder
pub use Rattle.ddm_types.proofs.Permuted
