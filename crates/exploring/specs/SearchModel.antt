-- Of `search_model`, what this crate and those above it name.
pub use Rattle.explorer.specs.SearchModel.Explored
pub use Rattle.explorer.specs.SearchModel.Machines
