-- Of `flat_model`, what this crate and those above it name.
pub use Rattle.rv_hart.proofs.FlatModel.Actions
pub use Rattle.rv_hart.proofs.FlatModel.Frames
pub use Rattle.rv_hart.proofs.FlatModel.Items
pub use Rattle.rv_hart.proofs.FlatModel.Steps
