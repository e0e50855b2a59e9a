pub mod Folds
pub mod Targets
pub mod Sounds
