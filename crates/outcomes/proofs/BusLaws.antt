-- Of `bus_laws`, what this crate and those above it name.
pub use Rattle.outcome_model.proofs.BusLaws.StartLevels
