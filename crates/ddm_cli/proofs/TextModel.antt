-- Of `text_model`, what this crate and those above it name.
pub use Rattle.witness_check.proofs.TextModel.Given
pub use Rattle.witness_check.proofs.TextModel.Numbered
pub use Rattle.witness_check.proofs.TextModel.Outputs
