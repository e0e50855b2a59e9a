-- Of `flat_model`, what this crate and those above it name.
pub use Rattle.rv_flat.specs.FlatModel.Flat
pub use Rattle.rv_flat.specs.FlatModel.Legal
