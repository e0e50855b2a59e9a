-- Of `headline`, what this crate and those above it name.
pub use Rattle.start_parts.proofs.HeadlineCrate.Runs
