-- Of `tree_model`, what this crate and those above it name.
pub use Rattle.spelling_laws.proofs.TreeModel.FrameKept
pub use Rattle.spelling_laws.proofs.TreeModel.Tests
