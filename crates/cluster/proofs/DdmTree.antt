-- Of `ddm_tree`, what this crate and those above it name.
pub use Rattle.ddm_tree.proofs.Along
pub use Rattle.ddm_tree.proofs.LeafList
pub use Rattle.ddm_tree.proofs.Names
pub use Rattle.ddm_tree.proofs.Places
pub use Rattle.ddm_tree.proofs.Reading
pub use Rattle.ddm_tree.proofs.RulesKept
pub use Rattle.ddm_tree.proofs.TurnMade
