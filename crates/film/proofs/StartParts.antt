-- Of `start_parts`, what crates above this one name.
pub use Rattle.any_runs.proofs.StartParts.StartNew
