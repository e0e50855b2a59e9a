-- Definitions of libraries below that proofs of this crate open.
unfoldable pub use Rattle.rv_flat.specs.FlatModel.Flat.{flat_halted, flat_start}
