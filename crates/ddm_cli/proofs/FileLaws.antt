-- Of `file_laws`, what this crate names.
pub use Rattle.witness_laws.proofs.FileLaws.CheckpointSizes
pub use Rattle.witness_laws.proofs.FileLaws.Images
pub use Rattle.witness_laws.proofs.FileLaws.Schedules
pub use Rattle.witness_laws.proofs.FileLaws.Trees
