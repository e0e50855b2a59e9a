-- Definitions of libraries below that proofs of this crate open.
unfoldable pub use Rattle.part_tests.specs.DdmTypes.ItemTable.{items_of}
