-- Of `ddm_tree`, what this crate and those above it name.
pub use Rattle.start_parts.proofs.DdmTree.Along
pub use Rattle.start_parts.proofs.DdmTree.LeafList
pub use Rattle.start_parts.proofs.DdmTree.Names
pub use Rattle.start_parts.proofs.DdmTree.Places
pub use Rattle.start_parts.proofs.DdmTree.Reading
pub use Rattle.start_parts.proofs.DdmTree.RulesKept
pub use Rattle.start_parts.proofs.DdmTree.TurnMade
