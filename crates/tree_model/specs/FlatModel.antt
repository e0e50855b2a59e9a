-- Of `flat_model`, what this crate and those above it name.
pub use Rattle.flat_model.specs.Flat
pub use Rattle.flat_model.specs.Hart
pub use Rattle.flat_model.specs.Legal
pub use Rattle.flat_model.specs.declared
