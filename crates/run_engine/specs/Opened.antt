-- Definitions of libraries below that proofs of this crate open.
unfoldable pub use Rattle.run_engine.specs.TreeModel.Start.Machine.{start_refusal}
unfoldable pub use Rattle.run_engine.specs.TreeModel.Start.Memory.{start_items}
