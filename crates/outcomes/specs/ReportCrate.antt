-- Of `report`, what this crate and those above it name.
pub use Rattle.measuring.specs.ReportCrate.Appends
pub use Rattle.measuring.specs.ReportCrate.Roles
pub use Rattle.measuring.specs.ReportCrate.declared
