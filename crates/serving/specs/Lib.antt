pub mod BusLaws
pub mod DdmTypes
pub mod FlatModel
pub mod ServingModel
pub mod TreeModel
pub mod TreeRules
pub mod Shown
