-- Definitions of libraries below that proofs of this crate open.
unfoldable pub use Rattle.start_memory.specs.TreeModel.Start.Memory.{memory_word, start_items, start_words}
