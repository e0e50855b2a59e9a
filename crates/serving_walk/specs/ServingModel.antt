-- Of `serving_model`, what this crate and those above it name.
pub use Rattle.serving_model.specs.OneLeaf
pub use Rattle.serving_model.specs.Parts
pub use Rattle.serving_model.specs.Rest
pub use Rattle.serving_model.specs.ServedLists
pub use Rattle.serving_model.specs.Serving
pub use Rattle.serving_model.specs.Shows
pub use Rattle.serving_model.specs.Texts
pub use Rattle.serving_model.specs.Told
pub use Rattle.serving_model.specs.Walk
