-- Of `elf_load`, what this crate and those above it name.
pub use Rattle.start_memory.specs.ElfLoad.ElfFile
pub use Rattle.start_memory.specs.ElfLoad.ImageRule
pub use Rattle.start_memory.specs.ElfLoad.Written
pub use Rattle.start_memory.specs.ElfLoad.declared
