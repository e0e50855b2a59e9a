-- Of `bus_laws`, what this crate and those above it name.
pub use Rattle.order_laws.proofs.BusLaws.FoundExists
pub use Rattle.order_laws.proofs.BusLaws.HartChanges
pub use Rattle.order_laws.proofs.BusLaws.StartKept
pub use Rattle.order_laws.proofs.BusLaws.StartLevels
pub use Rattle.order_laws.proofs.BusLaws.StartSums
