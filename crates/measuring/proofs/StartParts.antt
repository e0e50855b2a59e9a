-- Of `start_parts`, what crates above this one name.
pub use Rattle.recording.proofs.StartParts.Levels
pub use Rattle.recording.proofs.StartParts.Names
pub use Rattle.recording.proofs.StartParts.NewLeaves
pub use Rattle.recording.proofs.StartParts.StartNew
