pub mod BusLaws
pub mod DdmTypes
pub mod TreeModel
