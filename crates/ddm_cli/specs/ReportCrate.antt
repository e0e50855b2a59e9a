-- Of `report`, what this crate and those above it name.
pub use Rattle.outcomes.specs.ReportCrate.Appends
pub use Rattle.outcomes.specs.ReportCrate.Roles
pub use Rattle.outcomes.specs.ReportCrate.declared
