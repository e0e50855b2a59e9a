-- Of `bus_laws`, what this crate and those above it name.
pub use Rattle.ddm_tree.proofs.BusLaws.HartChanges
pub use Rattle.ddm_tree.proofs.BusLaws.StartLevels
pub use Rattle.ddm_tree.proofs.BusLaws.StartNodes
