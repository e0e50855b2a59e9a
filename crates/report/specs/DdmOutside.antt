-- Of `ddm_outside`, what this crate and those above it name.
pub use Rattle.ddm_outside.specs.Causes
pub use Rattle.ddm_outside.specs.MemoryShelf
pub use Rattle.ddm_outside.specs.Telling
