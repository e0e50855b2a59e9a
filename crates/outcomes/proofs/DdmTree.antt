-- Of `ddm_tree`, what this crate and those above it name.
pub use Rattle.measuring.proofs.DdmTree.LeafList
pub use Rattle.measuring.proofs.DdmTree.RulesKept
