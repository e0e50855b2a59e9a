-- Of `start_parts`, what this crate and those above it name.
pub use Rattle.outcomes.proofs.StartParts.Levels
pub use Rattle.outcomes.proofs.StartParts.Names
pub use Rattle.outcomes.proofs.StartParts.NewLeaves
pub use Rattle.outcomes.proofs.StartParts.StartNew
