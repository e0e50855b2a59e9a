-- Of `flat_model`, what this crate and those above it name.
pub use Rattle.flat_model.proofs.Actions
pub use Rattle.flat_model.proofs.Frames
pub use Rattle.flat_model.proofs.Items
pub use Rattle.flat_model.proofs.Steps
