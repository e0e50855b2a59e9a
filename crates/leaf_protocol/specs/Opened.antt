-- Definitions of libraries below that proofs of this crate open.
unfoldable pub use Rattle.leaf_protocol.specs.StateReading.Parts.{read_hart}
