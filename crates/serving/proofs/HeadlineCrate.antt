-- Of `headline`, what this crate and those above it name.
pub use Rattle.serving_walk.proofs.HeadlineCrate.Standing
