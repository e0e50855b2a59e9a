pub mod DdmTypes
pub mod TreeModel
pub mod Opened
