-- Of `start_parts`, what this crate and those above it name.
pub use Rattle.measuring.proofs.StartParts.Levels
pub use Rattle.measuring.proofs.StartParts.Names
pub use Rattle.measuring.proofs.StartParts.NewLeaves
pub use Rattle.measuring.proofs.StartParts.StartNew
