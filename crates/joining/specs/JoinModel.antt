-- Of `join_model`, what this crate and those above it name.
pub use Rattle.join_model.specs.Files
pub use Rattle.join_model.specs.Table
pub use Rattle.join_model.specs.declared
