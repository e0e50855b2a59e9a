-- Of `ddm_tree`, what this crate and those above it name.
pub use Rattle.any_runs.proofs.DdmTree.LeafList
