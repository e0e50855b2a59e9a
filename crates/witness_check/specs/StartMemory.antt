-- Of `start_memory`, what this crate and those above it name.
pub use Rattle.start_memory.specs.Memory
