pub mod DdmTypes
pub mod FlatModel
pub mod Reasons
