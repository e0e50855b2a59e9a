-- Of `flat_model`, what this crate and those above it name.
pub use Rattle.headline.specs.FlatModel.Flat
pub use Rattle.headline.specs.FlatModel.Hart
pub use Rattle.headline.specs.FlatModel.Legal
pub use Rattle.headline.specs.FlatModel.declared
