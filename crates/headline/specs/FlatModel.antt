-- Of `flat_model`, what this crate and those above it name.
pub use Rattle.order_laws.specs.FlatModel.Flat
pub use Rattle.order_laws.specs.FlatModel.Hart
pub use Rattle.order_laws.specs.FlatModel.Legal
pub use Rattle.order_laws.specs.FlatModel.declared
