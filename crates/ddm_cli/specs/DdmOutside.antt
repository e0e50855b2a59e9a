-- Of `ddm_outside`, what this crate and those above it name.
pub use Rattle.outcomes.specs.DdmOutside.Causes
pub use Rattle.outcomes.specs.DdmOutside.MemoryShelf
pub use Rattle.outcomes.specs.DdmOutside.Telling
