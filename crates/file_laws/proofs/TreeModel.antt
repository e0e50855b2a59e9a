-- Of `tree_model`, what this crate and those above it name.
pub use Rattle.value_laws.proofs.TreeModel.FrameKept
