-- Of `ddm_tree`, what this crate and those above it name.
pub use Rattle.inspector.proofs.DdmTree.LeafList
pub use Rattle.inspector.proofs.DdmTree.RulesKept
pub use Rattle.inspector.proofs.DdmTree.TurnMade
