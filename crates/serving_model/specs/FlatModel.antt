-- Of `flat_model`, what this crate and those above it name.
pub use Rattle.bus_laws.specs.FlatModel.Legal
