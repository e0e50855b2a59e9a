-- Of `headline`, what this crate and those above it name.
pub use Rattle.headline.proofs.Standing
