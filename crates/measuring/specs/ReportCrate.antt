-- Of `report`, what crates above this one name.
pub use Rattle.report.specs.Appends
pub use Rattle.report.specs.Roles
pub use Rattle.report.specs.declared
