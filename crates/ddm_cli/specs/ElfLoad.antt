-- Of `elf_load`, what this crate and those above it name.
pub use Rattle.witness_check.specs.ElfLoad.ElfFile
pub use Rattle.witness_check.specs.ElfLoad.ImageRule
pub use Rattle.witness_check.specs.ElfLoad.Written
pub use Rattle.witness_check.specs.ElfLoad.declared
