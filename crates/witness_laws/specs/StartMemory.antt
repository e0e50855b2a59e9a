-- Of `start_memory`, what this crate and those above it name.
pub use Rattle.witness_check.specs.StartMemory.Memory
