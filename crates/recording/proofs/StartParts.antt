-- Of `start_parts`, what crates above this one name.
pub use Rattle.any_runs.proofs.StartParts.Levels
pub use Rattle.any_runs.proofs.StartParts.Names
pub use Rattle.any_runs.proofs.StartParts.NewLeaves
pub use Rattle.any_runs.proofs.StartParts.StartNew
