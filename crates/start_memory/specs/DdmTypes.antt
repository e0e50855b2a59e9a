-- Of `ddm_types`, what this crate and those above it name.
pub use Rattle.elf_load.specs.DdmTypes.ItemTable
pub use Rattle.elf_load.specs.DdmTypes.declared
