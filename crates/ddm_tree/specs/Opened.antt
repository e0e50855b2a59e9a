-- Definitions of libraries below that proofs of this crate open.
unfoldable pub use Rattle.ddm_tree.specs.StateReading.Parts.{read_traffic}
