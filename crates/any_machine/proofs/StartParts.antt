-- Of `start_parts`, what this crate and those above it name.
pub use Rattle.inspector.proofs.StartParts.EachLevel
pub use Rattle.inspector.proofs.StartParts.Levels
pub use Rattle.inspector.proofs.StartParts.Made
pub use Rattle.inspector.proofs.StartParts.Names
pub use Rattle.inspector.proofs.StartParts.NewLeaves
pub use Rattle.inspector.proofs.StartParts.StartNew
