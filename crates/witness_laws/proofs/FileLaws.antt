-- Of `file_laws`, what those above this crate name.
pub use Rattle.file_laws.proofs.CheckpointSizes
pub use Rattle.file_laws.proofs.Images
pub use Rattle.file_laws.proofs.Schedules
pub use Rattle.file_laws.proofs.Trees
