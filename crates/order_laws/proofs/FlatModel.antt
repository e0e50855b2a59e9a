-- Of `flat_model`, what this crate and those above it name.
pub use Rattle.bus_laws.proofs.FlatModel.Actions
pub use Rattle.bus_laws.proofs.FlatModel.Completing
pub use Rattle.bus_laws.proofs.FlatModel.Frames
pub use Rattle.bus_laws.proofs.FlatModel.Insert
pub use Rattle.bus_laws.proofs.FlatModel.Items
pub use Rattle.bus_laws.proofs.FlatModel.Reserving
pub use Rattle.bus_laws.proofs.FlatModel.Runs
pub use Rattle.bus_laws.proofs.FlatModel.Steps
pub use Rattle.bus_laws.proofs.FlatModel.Storing
