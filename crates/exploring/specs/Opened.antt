-- Definitions of libraries below that proofs of this crate open.
unfoldable pub use Rattle.exploring.specs.SearchModel.Explored.{explore_text, explored_text, line_text, reach_text}
