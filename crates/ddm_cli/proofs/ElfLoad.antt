-- Of `elf_load`, what this crate and those above it name.
pub use Rattle.witness_check.proofs.ElfLoad.Pushes
