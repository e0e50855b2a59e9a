-- Of `ddm_tree`, what crates above this one name.
pub use Rattle.recording.proofs.DdmTree.LeafList
pub use Rattle.recording.proofs.DdmTree.RulesKept
