-- Of `elf_load`, what this crate and those above it name.
pub use Rattle.start_memory.proofs.ElfLoad.Pushes
