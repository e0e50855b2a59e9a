-- Of `serving_model`, what this crate and those above it name.
pub use Rattle.serving.specs.ServingModel.OneLeaf
pub use Rattle.serving.specs.ServingModel.Rest
pub use Rattle.serving.specs.ServingModel.ServedLists
pub use Rattle.serving.specs.ServingModel.Serving
pub use Rattle.serving.specs.ServingModel.Texts
