-- Of `ddm_outside`, what this crate and those above it name.
pub use Rattle.asked_commands.specs.DdmOutside.MemoryShelf
pub use Rattle.asked_commands.specs.DdmOutside.Telling
