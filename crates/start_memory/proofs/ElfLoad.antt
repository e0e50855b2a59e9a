-- Of `elf_load`, what this crate and those above it name.
pub use Rattle.elf_load.proofs.Pushes
