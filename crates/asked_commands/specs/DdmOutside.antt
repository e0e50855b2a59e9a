-- Of `ddm_outside`, what this crate and those above it name.
pub use Rattle.ddm_cli.specs.DdmOutside.MemoryShelf
pub use Rattle.ddm_cli.specs.DdmOutside.Telling
