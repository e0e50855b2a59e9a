-- Of `start_parts`, what this crate and those above it name.
pub use Rattle.any_runs.proofs.StartParts.EachLevel
pub use Rattle.any_runs.proofs.StartParts.Made
pub use Rattle.any_runs.proofs.StartParts.StartNew
