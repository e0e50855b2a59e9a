-- Definitions of libraries below that proofs of this crate open.
unfoldable pub use Rattle.hart_tests.specs.DdmTypes.ItemTable.{items_of}
