-- Of `bus_laws`, what this crate names.
pub use Rattle.start_parts.proofs.BusLaws.StartLevels
