-- Of `report`, what crates above this one name.
pub use Rattle.report.proofs.Written
