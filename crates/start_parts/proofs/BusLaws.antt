-- Of `bus_laws`, what this crate and those above it name.
pub use Rattle.cluster.proofs.BusLaws.HartChanges
pub use Rattle.cluster.proofs.BusLaws.StartLevels
pub use Rattle.cluster.proofs.BusLaws.StartNodes
