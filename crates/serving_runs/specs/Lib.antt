pub mod BusLaws
pub mod DdmTypes
pub mod FlatModel
pub mod ServingModel
pub mod TextModel
pub mod TreeModel
pub mod Served
