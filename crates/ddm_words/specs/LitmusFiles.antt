-- Of `litmus_files`, what this crate and those above it name.
pub use Rattle.litmus_files.specs.Assembled
pub use Rattle.litmus_files.specs.Places
pub use Rattle.litmus_files.specs.declared
