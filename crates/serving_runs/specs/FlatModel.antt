-- Of `flat_model`, what this crate and those above it name.
pub use Rattle.serving.specs.FlatModel.Flat
pub use Rattle.serving.specs.FlatModel.Legal
