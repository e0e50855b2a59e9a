-- Of `flat_model`, what this crate and those above it name.
pub use Rattle.rv_hart.specs.FlatModel.Flat
pub use Rattle.rv_hart.specs.FlatModel.Hart
pub use Rattle.rv_hart.specs.FlatModel.Legal
pub use Rattle.rv_hart.specs.FlatModel.declared
