-- Of `litmus_model`, what this crate and those above it name.
pub use Rattle.litmus_files.specs.LitmusModel.Test
pub use Rattle.litmus_files.specs.LitmusModel.declared
