-- Of `report`, what this crate names.
pub use Rattle.ddm_cli.specs.ReportCrate.declared
