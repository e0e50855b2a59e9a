-- Of `ddm_types`, what this crate and those above it name.
pub use Rattle.tree_rules.proofs.DdmTypes.KeyOrder
