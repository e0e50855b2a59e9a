-- Of `elf_load`, what this crate and those above it name.
pub use Rattle.ddm_cli.proofs.ElfLoad.Pushes
