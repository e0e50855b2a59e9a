-- Of `search_model`, what this crate and those above it name.
pub use Rattle.search_model.specs.Explored
pub use Rattle.search_model.specs.Machines
pub use Rattle.search_model.specs.Tried
