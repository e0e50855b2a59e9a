-- Of `elf_load`, what this crate and those above it name.
pub use Rattle.elf_load.specs.ElfFile
pub use Rattle.elf_load.specs.ImageRule
pub use Rattle.elf_load.specs.Written
pub use Rattle.elf_load.specs.declared
