-- Of `serving_model`, what this crate and those above it name.
pub use Rattle.serving_walk.specs.ServingModel.OneLeaf
pub use Rattle.serving_walk.specs.ServingModel.Parts
pub use Rattle.serving_walk.specs.ServingModel.Rest
pub use Rattle.serving_walk.specs.ServingModel.ServedLists
pub use Rattle.serving_walk.specs.ServingModel.Serving
pub use Rattle.serving_walk.specs.ServingModel.Shows
pub use Rattle.serving_walk.specs.ServingModel.Texts
pub use Rattle.serving_walk.specs.ServingModel.Told
pub use Rattle.serving_walk.specs.ServingModel.Walk
