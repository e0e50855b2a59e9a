-- Of `ddm_outside`, what this crate and those above it name.
pub use Rattle.measuring.specs.DdmOutside.Causes
pub use Rattle.measuring.specs.DdmOutside.MemoryShelf
pub use Rattle.measuring.specs.DdmOutside.Telling
