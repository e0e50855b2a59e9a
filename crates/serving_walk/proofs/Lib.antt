pub mod HeadlineCrate
pub mod ServingModel
pub mod TreeModel
pub mod AtBus
pub mod Children
pub mod Walks
