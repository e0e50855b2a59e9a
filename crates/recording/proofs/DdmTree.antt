-- Of `ddm_tree`, what crates above this one name.
pub use Rattle.any_runs.proofs.DdmTree.LeafList
pub use Rattle.any_runs.proofs.DdmTree.RulesKept
