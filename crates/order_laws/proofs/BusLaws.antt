-- Of `bus_laws`, what this crate and those above it name.
pub use Rattle.bus_laws.proofs.FoundExists
pub use Rattle.bus_laws.proofs.HartChanges
pub use Rattle.bus_laws.proofs.StartKept
pub use Rattle.bus_laws.proofs.StartLevels
pub use Rattle.bus_laws.proofs.StartSums
