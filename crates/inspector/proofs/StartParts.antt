-- Of `start_parts`, what this crate and those above it name.
pub use Rattle.start_parts.proofs.EachLevel
pub use Rattle.start_parts.proofs.Levels
pub use Rattle.start_parts.proofs.Made
pub use Rattle.start_parts.proofs.Names
pub use Rattle.start_parts.proofs.NewLeaves
pub use Rattle.start_parts.proofs.StartNew
