-- Of `tree_model`, what this crate and those above it name.
pub use Rattle.bus_judging.proofs.TreeModel.HartRooms
pub use Rattle.bus_judging.proofs.TreeModel.LeafRooms
