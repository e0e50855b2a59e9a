-- Of `flat_model`, what this crate and those above it name.
pub use Rattle.order_laws.proofs.FlatModel.Actions
pub use Rattle.order_laws.proofs.FlatModel.Items
pub use Rattle.order_laws.proofs.FlatModel.Reserving
pub use Rattle.order_laws.proofs.FlatModel.Runs
pub use Rattle.order_laws.proofs.FlatModel.Steps
pub use Rattle.order_laws.proofs.FlatModel.Storing
