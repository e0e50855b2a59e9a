pub mod ServingModel
pub mod TreeModel
mod Parts
mod CanStart
pub mod Complete
