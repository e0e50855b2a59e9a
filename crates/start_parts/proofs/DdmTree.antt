-- Of `ddm_tree`, what this crate and those above it name.
pub use Rattle.cluster.proofs.DdmTree.Along
pub use Rattle.cluster.proofs.DdmTree.LeafList
pub use Rattle.cluster.proofs.DdmTree.Names
pub use Rattle.cluster.proofs.DdmTree.Places
pub use Rattle.cluster.proofs.DdmTree.Reading
pub use Rattle.cluster.proofs.DdmTree.RulesKept
pub use Rattle.cluster.proofs.DdmTree.TurnMade
