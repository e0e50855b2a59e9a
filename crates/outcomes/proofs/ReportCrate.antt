-- Of `report`, what this crate and those above it name.
pub use Rattle.measuring.proofs.ReportCrate.Written
