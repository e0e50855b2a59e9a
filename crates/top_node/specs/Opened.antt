-- Definitions of libraries below that proofs of this crate open.
unfoldable pub use Rattle.top_node.specs.TreeModel.State.Directory.{pending}
unfoldable pub use Rattle.top_node.specs.TreeModel.State.Leaf.{words_of_item}
