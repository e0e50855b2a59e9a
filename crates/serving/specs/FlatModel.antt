-- Of `flat_model`, what this crate and those above it name.
pub use Rattle.serving_walk.specs.FlatModel.Flat
pub use Rattle.serving_walk.specs.FlatModel.Hart
pub use Rattle.serving_walk.specs.FlatModel.Legal
pub use Rattle.serving_walk.specs.FlatModel.declared
