-- Of `ddm_outside`, what crates above this one name.
pub use Rattle.report.specs.DdmOutside.Causes
pub use Rattle.report.specs.DdmOutside.MemoryShelf
pub use Rattle.report.specs.DdmOutside.Telling
