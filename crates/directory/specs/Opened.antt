-- Definitions of libraries below that proofs of this crate open.
unfoldable pub use Rattle.directory.specs.StateWords.Parts.{records, records_from}
unfoldable pub use Rattle.directory.specs.TreeModel.State.Directory.{dir_answer, dir_room, dir_take_data}
unfoldable pub use Rattle.directory.specs.TreeModel.State.Directory.{dir_take_exclusive, dir_take_inject, pending}
