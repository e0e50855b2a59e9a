pub mod HeadlineCrate
pub mod ServingModel
pub mod TreeModel
pub mod Named
pub mod Walked
pub mod Steps
pub mod Lines
pub mod Completes
